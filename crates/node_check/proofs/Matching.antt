-- The counts say how many events of each stream the run so far reported, and one more act changes
-- that of its own process alone.
use Rattle.std.proofs.Common.{◌≡◌, ◌≢◌, ℕ, ◌+◌, ◌<◌, ◌≤◌, zero, suc, true, false, cond, List, []}
use Rattle.std.proofs.Common.{◌∷◌, ◌++◌, length, take, get_or, set, slice_get, Option, Some, None}
use Rattle.std.proofs.Common.{refl, sym, ◌∙◌, ap, subst, arith, inl, inr, append_assoc}
use mathlib.Core.List.{IsPrefix}
use Rattle.std.specs.List.{AllByRecursion}
use Rattle.std.proofs.lemmas.Bool.{cases_eq, cases_order}
use Rattle.std.proofs.lemmas.List.{get_or-set_other, get_or-set_same, length-set, take_more}
use Rattle.std.proofs.lemmas.List.{length-take-le, length-map, get_or-map}
use Rattle.std.proofs.lemmas.Option.{same_Some, slice_get_within, get_or_from_slice_get}
use Rattle.std.proofs.lemmas.Option.{slice_get-get_or}
use Rattle.st_core.specs.declared.types.Event.{Event}
use Rattle.st_core.specs.declared.types.Pid.{Pid}
use Rattle.st_core.specs.Pid.{pid_eq, IsBelow, IsRising}
use Rattle.st_core.specs.Step.{Outcome}
use Rattle.st_core.specs.Run.{Stream, pids_of}
use Rattle.st_core.specs.Streams.{events_of, stream_of}
use Rattle.st_core.proofs.ForCallers.{IsBelow-apart, pid_eq-same, pid_eq-swap, rising_at}
use Rattle.node_machine.specs.Node.{NodeAct, node_actor}
use Rattle.node_streams.specs.Runs.{node_stream}
use Rattle.node_check.specs.Progress.{counts_after, IsMatchedOnNode, IsNextEvent}
use Rattle.node_check.proofs.Runs.{stream_other, stream_own, stream_silent}

-- PLACES

pub places_apart : (ps : List Pid) (i j : ℕ) (p q : Pid) → IsRising ps → slice_get ps i ≡ Some p
    → slice_get ps j ≡ Some q → i ≢ j → pid_eq p q ≡ false
places_apart ps i j p q rising p_at q_at apart =
    let p_in = slice_get_within ps i p p_at in
    let q_in = slice_get_within ps j q q_at in
    let p_is = get_or_from_slice_get ps i p p p_at in
    let q_is = get_or_from_slice_get ps j q p q_at in
    elim (cases_order i j) [
      | inl same ↦ absurd (apart same)
      | inr other ↦ elim other [
        | inl before ↦
            IsBelow-apart p q (subst (λ x. IsBelow x q) p_is
            (subst (IsBelow (get_or ps i p)) q_is (rising_at ps i j p rising before q_in)))
        | inr after ↦
            pid_eq-swap p q ∙ IsBelow-apart q p (subst (λ x. IsBelow x p) q_is
            (subst (IsBelow (get_or ps j p)) p_is (rising_at ps j i p rising after p_in)))
      ]
    ]

pub pid_at : (streams : List Stream) (k : ℕ) (d : Stream) → k < length streams
    → slice_get (pids_of streams) k ≡ Some (get_or streams k d).pid
pid_at streams k d within =
    let size = length-map streams (λ (x : Stream). x.pid) in
    slice_get-get_or (pids_of streams) k d.pid (omega arith)
    ∙ ap (λ (q : Pid). Some q) (get_or-map (λ (y : Stream). y.pid) streams k d d.pid within)

above : (p : Pid) (streams : List Stream) (k : ℕ) (d : Stream)
    → AllByRecursion (IsBelow p) (pids_of streams)
    → k < length streams → IsBelow p (get_or streams k d).pid
above p [] k d all within = absurd (omega arith)
above p (x ∷ streams) zero d all within = all.0
above p (x ∷ streams) (suc k) d all within = above p streams k d all.1 (omega arith)

-- a listed pid has its stream's events
pub events_there : (streams : List Stream) (k : ℕ) (d : Stream) → IsRising (pids_of streams)
    → k < length streams
    → events_of streams (get_or streams k d).pid ≡ (get_or streams k d).events
events_there [] k d rising within = absurd (omega arith)
events_there (x ∷ streams) zero d rising within =
    ap (λ b. elim (cond b (Some x) (stream_of streams x.pid)) [ None ↦ [] | Some y ↦ y.events ])
    (pid_eq-same x.pid)
events_there (x ∷ streams) (suc k) d rising within =
    let y = get_or streams k d in
    let apart : pid_eq x.pid y.pid ≡ false =
    IsBelow-apart x.pid y.pid (above x.pid streams k d rising.0 (omega arith)) in
    ap (λ b. elim (cond b (Some x) (stream_of streams y.pid)) [ None ↦ [] | Some z ↦ z.events ])
    apart
    ∙ events_there streams k d rising.1 (omega arith)

-- ONE MORE EVENT

one_more : (es : List Event) (n : ℕ) (e : Event) → slice_get es n ≡ Some e
    → take n es ++ e ∷ [] ≡ take (n + 1) es
one_more es n e at =
    ap (λ x. take n es ++ x ∷ []) (sym (get_or_from_slice_get es n e e at))
    ∙ sym (take_more es n e (slice_get_within es n e at))

behind : {A : Type 0} (xs zs : List A) → slice_get (xs ++ zs) (length xs) ≡ slice_get zs 0
behind [] zs = refl
behind (x ∷ xs) zs = behind xs zs

-- an event that follows the first n events is the next one
next_in : (es : List Event) (n : ℕ) (e : Event) → n ≤ length es → IsPrefix (take n es ++ e ∷ []) es
    → slice_get es n ≡ Some e
next_in es n e within front =
    ap (λ xs. slice_get xs n) (sym front.1 ∙ append_assoc (take n es) (e ∷ []) front.0)
    ∙ ap (slice_get (take n es ++ e ∷ front.0)) (sym (length-take-le n es within))
    ∙ behind (take n es) (e ∷ front.0)

module _ (streams : List Stream) (acts : List NodeAct) (a : NodeAct) (os : List Outcome)
    (o : Outcome) (counts : List ℕ) (place : ℕ) (me : Pid) (rising : IsRising (pids_of streams))
    (even : length os ≡ length acts) (len : length counts ≡ length (pids_of streams))
    (at : slice_get (pids_of streams) place ≡ Some me) (own : node_actor a ≡ me)
    (matched : (k : ℕ) (p : Pid) → slice_get (pids_of streams) k ≡ Some p
    → IsMatchedOnNode streams acts os p (get_or counts k 0)) where
  abbrev pub acts2 : List NodeAct
  acts2 = acts ++ a ∷ []

  abbrev pub os2 : List Outcome
  os2 = os ++ o ∷ []

  mine : pid_eq (node_actor a) me ≡ true
  mine = ap (pid_eq (node_actor a)) (sym own) ∙ pid_eq-same (node_actor a)

  -- the actor's stream, with its event
  grown : (e : Event) → o.report ≡ Some e
      → node_stream acts2 os2 me ≡ take (get_or counts place 0) (events_of streams me) ++ e ∷ []
  grown e is =
      stream_own acts a os o even me e mine is
      ∙ ap (λ es. es ++ e ∷ []) (matched place me at).first

  own_matched : (e : Event) → o.report ≡ Some e
      → slice_get (events_of streams me) (get_or counts place 0) ≡ Some e
      → IsMatchedOnNode streams acts2 os2 me (get_or counts place 0 + 1)
  own_matched e is next = record {
    first = grown e is ∙ one_more (events_of streams me) (get_or counts place 0) e next;
    within =
        let below = slice_get_within (events_of streams me) (get_or counts place 0) e next in
        omega arith;
  }

  other_matched : (k : ℕ) (p : Pid) → slice_get (pids_of streams) k ≡ Some p
      → node_stream acts2 os2 p ≡ node_stream acts os p
      → IsMatchedOnNode streams acts2 os2 p (get_or counts k 0)
  other_matched k p p_at same = record {
    first = same ∙ (matched k p p_at).first;
    within = (matched k p p_at).within;
  }

  matched_by : (told : Option Event) → o.report ≡ told
      → IsNextEvent (events_of streams me) (get_or counts place 0) told
      → (k : ℕ) (p : Pid) → slice_get (pids_of streams) k ≡ Some p
      → IsMatchedOnNode streams acts2 os2 p (get_or (counts_after counts place told) k 0)
  matched_by None is next k p p_at =
      other_matched k p p_at (stream_silent acts a os o even p is)
  matched_by (Some e) is next k p p_at =
      let more = get_or counts place 0 + 1 in
      elim (cases_eq k place) [
        | inl same ↦
            let below = slice_get_within (pids_of streams) place me at in
            let who : me ≡ p = same_Some me p (sym at
            ∙ ap (slice_get (pids_of streams)) (sym same) ∙ p_at) in
            let count : get_or (set counts place more) k 0 ≡ more =
            ap (λ j. get_or (set counts place more) j 0) same
            ∙ get_or-set_same counts place more 0 (omega arith) in
            subst (λ q. IsMatchedOnNode streams acts2 os2 q (get_or (set counts place more) k 0))
            who
            (subst (IsMatchedOnNode streams acts2 os2 me) (sym count) (own_matched e is next))
        | inr other ↦
            let apart : pid_eq (node_actor a) p ≡ false =
            ap (λ q. pid_eq q p) own
            ∙ places_apart (pids_of streams) place k me p rising at p_at (λ same. other (sym same))
            in
            subst (IsMatchedOnNode streams acts2 os2 p)
            (sym (get_or-set_other counts place k more 0 other))
            (other_matched k p p_at (stream_other acts a os o even p apart))
      ]

  -- if the event is the actor's next, the counts match with it
  pub matched_more : IsNextEvent (events_of streams me) (get_or counts place 0) o.report
      → (k : ℕ) (p : Pid) → slice_get (pids_of streams) k ≡ Some p
      → IsMatchedOnNode streams acts2 os2 p (get_or (counts_after counts place o.report) k 0)
  matched_more next = matched_by o.report refl next

  next_of_front : (told : Option Event) → o.report ≡ told
      → IsPrefix (node_stream acts2 os2 me) (events_of streams me)
      → IsNextEvent (events_of streams me) (get_or counts place 0) told
  next_of_front None is front = tt
  next_of_front (Some e) is front =
      next_in (events_of streams me) (get_or counts place 0) e (matched place me at).within
      (subst (λ es. IsPrefix es (events_of streams me)) (grown e is) front)

  -- only if it is the next, what the actor reported is at the front of its stream
  pub next_since_front : IsPrefix (node_stream acts2 os2 me) (events_of streams me)
      → IsNextEvent (events_of streams me) (get_or counts place 0) o.report
  next_since_front front = next_of_front o.report refl front

pub counts_after_len : (counts : List ℕ) (place : ℕ) (told : Option Event)
    → length (counts_after counts place told) ≡ length counts
counts_after_len counts place None = refl
counts_after_len counts place (Some e) = length-set counts place (get_or counts place 0 + 1)
