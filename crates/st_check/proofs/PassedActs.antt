-- The run so far determines the state, and one more act adds to its actor's stream alone.
use Rattle.std.proofs.Common.{◌≡◌, ℕ, ◌+◌, ◌<◌, Bool, true, false, List, [], ◌∷◌, ◌++◌}
use Rattle.std.proofs.Common.{length, map, get_or, set, replicate, Option, Some, None, IsSome}
use Rattle.std.proofs.Common.{is_some, option_map, option_to_list, refl, sym, ◌∙◌}
use Rattle.std.proofs.Common.{ap, subst, arith, append-nil, length-append, if◌then◌else◌}
use mathlib.Core.List.{IsPrefix}
use Rattle.std.specs.Option.{ForSome}
use Rattle.std.specs.List.{AllByRecursion, slice_get}
use Rattle.std.proofs.lemmas.Option.{same_Some, slice_get_within, get_or_from_slice_get}
use Rattle.std.proofs.lemmas.List.{get_or-map, length-map}
use Rattle.st_core.specs.declared.types.Pid.{Pid}
use Rattle.st_core.specs.declared.types.Event.{Event}
use Rattle.st_core.specs.declared.types.Act.{Act}
use Rattle.st_core.specs.Pid.{pid_eq, IsRising}
use Rattle.st_core.specs.State.{Process, State, process, zero_state}
use Rattle.st_core.specs.Step.{Outcome, actor, step}
use Rattle.st_core.specs.Run.{Stream, pids_of, run, run_from, stream}
use Rattle.st_core.specs.Streams.{events_of}
use Rattle.st_core.specs.Pairs.{tags_after, pairs}
use Rattle.st_core.specs.Verdict.{Passes}
use Rattle.st_core.proofs.ForCallers.{zero_pids, pid_eq-true, pid_eq-same, pid_eq-swap, run_parts}
use Rattle.st_core.proofs.ForCallers.{leaves_others}
use Rattle.st_world.proofs.ForCallers.{map_agree}
use Rattle.st_check.specs.Progress.{state_from, tags_of, reported_count, counts_with, IsPassed}
use Rattle.st_check.proofs.OneMoreAct.{length-run, run-append, state_from-append, stream-append}
use Rattle.st_check.proofs.OneMoreAct.{tags_from-append, pair_of, pairs_from-append}
use Rattle.st_check.proofs.Places.{map_at, entry_at, events_at}
use Rattle.st_check.proofs.Fronts.{front_more, front_next}

-- THE START

map_constant : {A B : Type 0} (c : B) (xs : List A) → replicate (length xs) c ≡ map (λ x. c) xs
map_constant c [] = refl
map_constant c (x ∷ xs) = ap (λ ys. c ∷ ys) (map_constant c xs)

-- the empty list of acts passes
pub passed_start : (top : ℕ) (streams : List Stream) (pids : List Pid) (s : State) (counts : List ℕ)
    (tags : List (List ℕ)) (ps : List (ℕ × ℕ)) → pids ≡ pids_of streams → s ≡ zero_state pids
    → counts ≡ replicate (length pids) 0 → tags ≡ replicate (length pids) [] → ps ≡ []
    → IsPassed top streams [] s counts tags ps
passed_start top streams pids s counts tags ps are at_zero no_counts no_tags no_pairs = record {
  outcomes = [];
  passing = record { runs = refl; fronts = λ k d within. ((get_or streams k d).events, refl) };
  is_state = at_zero ∙ ap zero_state are;
  are_counts = no_counts ∙ map_constant 0 pids ∙ ap (map (λ (p : Pid). 0)) are;
  are_tags = no_tags ∙ map_constant [] pids ∙ ap (map (λ (p : Pid). [])) are;
  are_pairs = no_pairs;
}

-- A PROCESS THAT ISN'T THERE

pub state_pids : (top : ℕ) (s : State) (acts : List Act) (os : List Outcome)
    → run_from top s acts ≡ Some os
    → map (λ (r : Process). r.pid) (state_from s os) ≡ map (λ (r : Process). r.pid) s
state_pids top s [] os h =
    ap (λ (xs : List Outcome). map (λ (r : Process). r.pid) (state_from s xs))
    (sym (same_Some [] os h))
state_pids top s (a ∷ acts) os h =
    let t = run_parts top s a acts os h in
    ap (λ (xs : List Outcome). map (λ (r : Process). r.pid) (state_from s xs)) t.is_whole
    ∙ state_pids top t.first.after acts t.others t.is_rest
    ∙ (leaves_others top s a t.first t.is_first).pids

unlisted_process : (s : State) (p : Pid)
    → AllByRecursion (λ q. pid_eq q p ≡ false) (map (λ (r : Process). r.pid) s)
    → process s p ≡ None
unlisted_process [] p apart = refl
unlisted_process (r ∷ s) p apart = rw apart.0 (unlisted_process s p apart.1)

-- an act of a process that isn't listed has no step
pub unlisted_stuck : (top : ℕ) (streams : List Stream) (acts : List Act) (s : State)
    (counts : List ℕ)
    (tags : List (List ℕ)) (ps : List (ℕ × ℕ)) (a : Act)
    → IsPassed top streams acts s counts tags ps
    → AllByRecursion (λ q. pid_eq q (actor a) ≡ false) (pids_of streams) → step top s a ≡ None
unlisted_stuck top streams acts s counts tags ps a p apart =
    let pids : map (λ (r : Process). r.pid) s ≡ pids_of streams =
    ap (map (λ (r : Process). r.pid)) p.is_state
    ∙ state_pids top (zero_state (pids_of streams)) acts p.outcomes p.passing.runs
    ∙ zero_pids (pids_of streams) in
    let missing : process s (actor a) ≡ None =
    unlisted_process s (actor a)
    (subst (AllByRecursion (λ q. pid_eq q (actor a) ≡ false)) (sym pids) apart) in
    rw missing refl

-- A STEP

-- the run of the acts and one more, by the step of that one
pub run_more : (top : ℕ) (streams : List Stream) (acts : List Act) (s : State) (counts : List ℕ)
    (tags : List (List ℕ)) (ps : List (ℕ × ℕ)) (a : Act) (first : Option Outcome)
    (p : IsPassed top streams acts s counts tags ps) → step top s a ≡ first
    → run top (pids_of streams) (acts ++ a ∷ []) ≡ option_map (λ o. p.outcomes ++ o ∷ []) first
run_more top streams acts s counts tags ps a first p h =
    run-append top (zero_state (pids_of streams)) acts a p.outcomes p.passing.runs
    ∙ ap (option_map (λ o. p.outcomes ++ o ∷ [])) (ap (λ x. step top x a) (sym p.is_state) ∙ h)

module _ (acts : List Act) (a : Act) (os : List Outcome) (o : Outcome)
    (even : length os ≡ length acts) where
  -- the streams of other processes stay
  pub stream_other : (q : Pid) → pid_eq (actor a) q ≡ false
      → stream (acts ++ a ∷ []) (os ++ o ∷ []) q ≡ stream acts os q
  stream_other q apart =
      stream-append acts a os o q even ∙ rw apart (append-nil (stream acts os q))

  no_event : (b : Bool) → (if b then option_to_list {X = Event} None else []) ≡ []
  no_event true = refl
  no_event false = refl

  -- an act without a report leaves all streams as they were
  pub stream_silent : (q : Pid) → o.report ≡ None
      → stream (acts ++ a ∷ []) (os ++ o ∷ []) q ≡ stream acts os q
  stream_silent q silent =
      stream-append acts a os o q even
      ∙ rw (silent, no_event (pid_eq (actor a) q)) (append-nil (stream acts os q))

  -- the actor's stream grows by the event that the act reports
  pub stream_own : (e : Event) → o.report ≡ Some e
      → stream (acts ++ a ∷ []) (os ++ o ∷ []) (actor a) ≡ stream acts os (actor a) ++ e ∷ []
  stream_own e is =
      stream-append acts a os o (actor a) even ∙ rw (pid_eq-same (actor a), is) refl

  counts_more : (pids : List Pid) (i : ℕ) → IsRising pids → slice_get pids i ≡ Some (actor a)
      → (report : Option Event) → o.report ≡ report
      → counts_with (map (reported_count acts os) pids) i report
      ≡ map (reported_count (acts ++ a ∷ []) (os ++ o ∷ [])) pids
  counts_more pids i rising at None silent =
      map_agree (reported_count acts os) (reported_count (acts ++ a ∷ []) (os ++ o ∷ [])) pids
      (λ q. ap length (sym (stream_silent q silent)))
  counts_more pids i rising at (Some e) is =
      let own : get_or (map (reported_count acts os) pids) i 0 + 1
      ≡ reported_count (acts ++ a ∷ []) (os ++ o ∷ []) (actor a) =
      ap (λ n. n + 1) (entry_at (reported_count acts os) pids i (actor a) 0 at)
      ∙ sym (ap length (stream_own e is) ∙ length-append (stream acts os (actor a)) (e ∷ [])) in
      ap (set (map (reported_count acts os) pids) i) own
      ∙ sym (map_at (reported_count acts os) (reported_count (acts ++ a ∷ []) (os ++ o ∷ [])) pids i
      (actor a) rising at
      (λ q apart. ap length (stream_other q (pid_eq-swap (actor a) q ∙ apart))))

  -- the events that a process has reported stay the front of its stream
  front_kept : (x : Stream) (report : Option Event) → o.report ≡ report
      → ForSome report (λ e. pid_eq (actor a) x.pid ≡ true
      → slice_get x.events (reported_count acts os x.pid) ≡ Some e)
      → IsPrefix (stream acts os x.pid) x.events
      → IsPrefix (stream (acts ++ a ∷ []) (os ++ o ∷ []) x.pid) x.events
  front_kept x None silent next front =
      subst (λ es. IsPrefix es x.events) (sym (stream_silent x.pid silent)) front
  front_kept x (Some e) is next front =
      elim (pid_eq (actor a) x.pid) as (λ b. pid_eq (actor a) x.pid ≡ b
      → IsPrefix (stream (acts ++ a ∷ []) (os ++ o ∷ []) x.pid) x.events) [
        | true ↦ λ same.
            let who : actor a ≡ x.pid = pid_eq-true (actor a) x.pid same in
            let grows : stream (acts ++ a ∷ []) (os ++ o ∷ []) x.pid ≡ stream acts os x.pid ++ e
            ∷ [] =
            subst (λ q. stream (acts ++ a ∷ []) (os ++ o ∷ []) q ≡ stream acts os q ++ e ∷ []) who
            (stream_own e is) in
            subst (λ es. IsPrefix es x.events) (sym grows)
            (front_more (stream acts os x.pid) x.events e front (next e refl same))
        | false ↦ λ apart. subst (λ es. IsPrefix es x.events) (sym (stream_other x.pid apart)) front
      ] refl

-- the act passes if it reports the next event of its actor's stream, or nothing
pub passed_more : (top : ℕ) (streams : List Stream) (acts : List Act) (s : State) (counts : List ℕ)
    (tags : List (List ℕ)) (ps : List (ℕ × ℕ)) (a : Act) (o : Outcome) (i : ℕ) (n : ℕ)
    (later : List (List ℕ))
    → IsRising (pids_of streams) → slice_get (pids_of streams) i ≡ Some (actor a) → n ≡ length acts
    → (p : IsPassed top streams acts s counts tags ps) → step top s a ≡ Some o
    → ForSome o.report (λ e. slice_get (events_of streams (actor a)) (get_or counts i 0) ≡ Some e)
    → later ≡ map (tags_after (tags_of acts p.outcomes) n a o.place) (pids_of streams)
    → IsPassed top streams (acts ++ a ∷ []) o.after (counts_with counts i o.report) later
    (ps ++ pair_of (tags_of acts p.outcomes) n a o)
passed_more top streams acts s counts tags ps a o i n later rising at number p h next are =
    let os = p.outcomes in
    let even = length-run top (zero_state (pids_of streams)) acts os p.passing.runs in
    let count : get_or counts i 0 ≡ reported_count acts os (actor a) =
    ap (λ xs. get_or xs i 0) p.are_counts
    ∙ entry_at (reported_count acts os) (pids_of streams) i (actor a) 0 at in
    let nth : n ≡ 0 + length acts = number ∙ (omega arith) in
    record {
      outcomes = os ++ o ∷ [];
      passing = record {
        runs = run_more top streams acts s counts tags ps a (Some o) p h;
        fronts = λ k d within.
            let x = get_or streams k d in
            front_kept acts a os o even x o.report refl (λ e is same.
            let who = pid_eq-true (actor a) x.pid same in
            ap (λ q. slice_get x.events (reported_count acts os q)) (sym who)
            ∙ ap (λ es. slice_get es (reported_count acts os (actor a)))
            (sym (events_at streams k d rising within))
            ∙ ap (λ q. slice_get (events_of streams q) (reported_count acts os (actor a))) (sym who)
            ∙ ap (slice_get (events_of streams (actor a))) (sym count) ∙ next e is)
            (p.passing.fronts k d within);
      };
      is_state = state_from-append (zero_state (pids_of streams)) os o;
      are_counts = ap (λ xs. counts_with xs i o.report) p.are_counts
          ∙ counts_more acts a os o even (pids_of streams) i rising at o.report refl;
      are_tags = are
          ∙ ap (λ t. map t (pids_of streams))
          (ap (λ k. tags_after (tags_of acts os) k a o.place) nth
          ∙ sym (tags_from-append (λ q. []) 0 acts a os o even));
      are_pairs = ap (λ xs. xs ++ pair_of (tags_of acts os) n a o) p.are_pairs
          ∙ ap (λ k. pairs acts os ++ pair_of (tags_of acts os) k a o) nth
          ∙ sym (pairs_from-append (λ q. []) 0 acts a os o even);
    }

-- the act differs if it reports another event
pub differs_more : (top : ℕ) (streams : List Stream) (acts : List Act) (s : State) (counts : List ℕ)
    (tags : List (List ℕ)) (ps : List (ℕ × ℕ)) (a : Act) (o : Outcome) (i : ℕ) (e : Event)
    → IsRising (pids_of streams) → slice_get (pids_of streams) i ≡ Some (actor a)
    → (p : IsPassed top streams acts s counts tags ps) → step top s a ≡ Some o → o.report ≡ Some e
    → ¬ (slice_get (events_of streams (actor a)) (get_or counts i 0) ≡ Some e)
    → IsSome (run top (pids_of streams) (acts ++ a ∷ [])) × ¬ Passes top streams (acts ++ a ∷ [])
differs_more top streams acts s counts tags ps a o i e rising at p h is other =
    let os = p.outcomes in
    let even = length-run top (zero_state (pids_of streams)) acts os p.passing.runs in
    let whole = run_more top streams acts s counts tags ps a (Some o) p h in
    let count : get_or counts i 0 ≡ reported_count acts os (actor a) =
    ap (λ xs. get_or xs i 0) p.are_counts
    ∙ entry_at (reported_count acts os) (pids_of streams) i (actor a) 0 at in
    let d : Stream = record { pid = actor a; events = [] } in
    let within : i < length streams = let below =
    slice_get_within (pids_of streams) i (actor a) at in let size =
    length-map streams (λ (x : Stream). x.pid) in omega arith in
    let x = get_or streams i d in
    let who : x.pid ≡ actor a =
    sym (get_or-map (λ (y : Stream). y.pid) streams i d (actor a) within)
    ∙ get_or_from_slice_get (pids_of streams) i (actor a) (actor a) at in (
      ap (λ (outs : Option (List Outcome)). is_some outs) whole,
      λ passes.
          let same : passes.0 ≡ os ++ o ∷ [] = same_Some _ _ (sym passes.1.runs ∙ whole) in
          let grows : stream (acts ++ a ∷ []) passes.0 x.pid ≡ stream acts os (actor a) ++ e ∷ [] =
          ap (λ (xs : List Outcome). stream (acts ++ a ∷ []) xs x.pid) same
          ∙ ap (stream (acts ++ a ∷ []) (os ++ o ∷ [])) who
          ∙ stream_own acts a os o even e is in
          let found : slice_get x.events (reported_count acts os (actor a)) ≡ Some e =
          front_next (stream acts os (actor a)) x.events e
          (subst (λ es. IsPrefix es x.events) grows (passes.1.fronts i d within)) in
          other (ap (slice_get (events_of streams (actor a))) count
          ∙ ap (λ q. slice_get (events_of streams q) (reported_count acts os (actor a))) (sym who)
          ∙ ap (λ es. slice_get es (reported_count acts os (actor a)))
          (events_at streams i d rising within) ∙ found),
    )
