-- If all acts pass, the counts say which events are left, so they give the verdict; and what a yes
-- shows holds in every run.
use Rattle.std.proofs.Common.{◌≡◌, ℕ, ◌+◌, ◌<◌, ◌≤◌, zero, suc, Bool, true, false, cond, nat_lt}
use Rattle.std.proofs.Common.{List, [], ◌∷◌, ◌++◌, length, get_or, find, Option, Some, None}
use Rattle.std.proofs.Common.{option_to_list, All, refl, sym, ◌∙◌, ap, subst, arith, append-nil}
use Rattle.std.proofs.Common.{length-append, if◌then◌else◌}
use mathlib.Core.List.{IsPrefix}
use Rattle.std.specs.List.{slice_get}
use Rattle.std.proofs.lemmas.Bool.{lt-ltb, le-ltb}
use Rattle.std.proofs.lemmas.Option.{same_Some, slice_get_within, slice_get-get_or}
use Rattle.std.proofs.lemmas.List.{get_or-map, length-map, nil_from_length}
use Rattle.std.proofs.lemmas.List.Elements.{All-nil, All-cons, All-head, All-tail, All-append}
use Rattle.st_core.specs.declared.types.Pid.{Pid}
use Rattle.st_core.specs.declared.types.Event.{Event}
use Rattle.st_core.specs.declared.types.Act.{Act}
use Rattle.st_core.specs.Pid.{pid_eq, IsRising}
use Rattle.st_core.specs.Step.{Outcome, actor}
use Rattle.st_core.specs.Run.{Stream, pids_of, stream}
use Rattle.st_core.specs.Streams.{events_of}
use Rattle.st_core.specs.Pairs.{Follows, AllPaired, pairs}
use Rattle.st_core.specs.Verdict.{Verdict, Left, Yes, left_over, IsVerdict}
use Rattle.st_core.specs.Laws.{KeepsSound}
use Rattle.st_core.specs.State.{State}
use Rattle.st_core.proofs.ForCallers.{run_sound, receives_follow, receives_are_paired}
use Rattle.st_check.specs.Progress.{reported_count, IsPassed}
use Rattle.st_check.specs.Answers.{FollowsAll, PairsAll, RisesOnYes}
use Rattle.st_check.proofs.Places.{entry_at, events_at}

-- THE FIRST THAT PASSES A TEST

found_first : {A : Type 0} (test : A → Bool) (xs : List A) (k : ℕ) (d : A) → k < length xs
    → test (get_or xs k d) ≡ true → ((j : ℕ) → j < k → test (get_or xs j d) ≡ false)
    → find test xs ≡ Some (get_or xs k d)
found_first test [] k d within here before = absurd (omega arith)
found_first test (x ∷ xs) zero d within here before = ap (λ b. cond b (Some x) (find test xs)) here
found_first test (x ∷ xs) (suc k) d within here before =
    ap (λ b. cond b (Some x) (find test xs)) (before 0 (omega arith))
    ∙ found_first test xs k d (omega arith) here (λ j below. before (suc j) (omega arith))

-- EVENTS LEFT

module _ (top : ℕ) (streams : List Stream) (acts : List Act) (s : State) (counts : List ℕ)
    (tags : List (List ℕ))
    (ps : List (ℕ × ℕ)) (rising : IsRising (pids_of streams))
    (p : IsPassed top streams acts s counts tags ps) where
  -- the pid, the count and the events at a place
  pid_at : (k : ℕ) (d : Stream) → k < length streams
      → slice_get (pids_of streams) k ≡ Some (get_or streams k d).pid
  pid_at k d within =
      let size = length-map streams (λ (x : Stream). x.pid) in
      slice_get-get_or (pids_of streams) k d.pid (omega arith)
      ∙ ap (λ (q : Pid). Some q) (get_or-map (λ (y : Stream). y.pid) streams k d d.pid within)

  count_at : (k : ℕ) (d : Stream) → k < length streams
      → get_or counts k 0 ≡ length (stream acts p.outcomes (get_or streams k d).pid)
  count_at k d within =
      ap (λ xs. get_or xs k 0) p.are_counts
      ∙ entry_at (reported_count acts p.outcomes) (pids_of streams) k (get_or streams k d).pid 0
      (pid_at k d within)

  -- no event is left of the process at a place
  none_at : (k : ℕ) (d : Stream) → k < length streams
      → ((q : Pid) → slice_get (pids_of streams) k ≡ Some q
      → length (events_of streams q) ≤ get_or counts k 0)
      → length (get_or streams k d).events
      ≤ length (stream acts p.outcomes (get_or streams k d).pid)
  none_at k d within none =
      let x = get_or streams k d in
      let low : length (events_of streams x.pid) ≤ get_or counts k 0 =
      none x.pid (pid_at k d within) in
      let events = ap length (events_at streams k d rising within) in
      let count = count_at k d within in
      omega arith

  pub left_verdict : (k : ℕ) (who : Pid) → slice_get (pids_of streams) k ≡ Some who
      → get_or counts k 0 < length (events_of streams who)
      → ((j : ℕ) (q : Pid) → j < k → slice_get (pids_of streams) j ≡ Some q
      → length (events_of streams q) ≤ get_or counts j 0) → IsVerdict top streams acts (Left who)
  left_verdict k who at left before =
      let d : Stream = record { pid = who; events = [] } in
      let within : k < length streams = let below = slice_get_within (pids_of streams) k who at in
      let size =
      length-map streams (λ (x : Stream). x.pid) in omega arith in
      let x = get_or streams k d in
      let is : x.pid ≡ who = same_Some _ _ (sym (pid_at k d within) ∙ at) in
      let more : length (stream acts p.outcomes x.pid) < length x.events =
      let events = ap length (events_at streams k d rising within) in
      let who_events : length (events_of streams x.pid) ≡ length (events_of streams who) =
      ap (λ q. length (events_of streams q)) is in
      let count = count_at k d within in
      omega arith in
      let first : left_over streams acts p.outcomes ≡ Some x =
      found_first (λ y. nat_lt (length (stream acts p.outcomes y.pid)) (length y.events)) streams k
      d within
      (lt-ltb _ _ more)
      (λ j below. le-ltb _ _ (none_at j d (omega arith) (λ q there. before j q below there))) in
      (p.outcomes, p.passing, x, first, is)

  whole_front : (xs ys : List Event) → IsPrefix xs ys → length ys ≤ length xs → xs ≡ ys
  whole_front xs ys front long =
      let size : length xs + length front.0 ≡ length ys =
      sym (length-append xs front.0) ∙ ap length front.1 in
      sym (append-nil xs) ∙ ap (λ zs. xs ++ zs) (sym (nil_from_length front.0 (omega arith)))
      ∙ front.1

  pub yes_verdict : ((j : ℕ) (q : Pid) → slice_get (pids_of streams) j ≡ Some q
      → length (events_of streams q) ≤ get_or counts j 0) → IsVerdict top streams acts (Yes ps)
  yes_verdict none = (
    p.outcomes,
    p.passing.runs,
    (λ k d within. let x = get_or streams k d in
        whole_front (stream acts p.outcomes x.pid) x.events (p.passing.fronts k d within)
        (none_at k d within (λ q at. none k q at))),
    p.are_pairs,
  )

-- WHAT A YES SHOWS

pub verdict_follows : (top : ℕ) (streams : List Stream) (acts : List Act) (v : Verdict)
    → IsVerdict top streams acts v
    → FollowsAll top streams acts v
verdict_follows top streams acts (Yes ps) v = λ os runs.
    let same : v.0 ≡ os = same_Some _ _ (sym v.1 ∙ runs) in
    subst (Follows acts os) (sym (v.3 ∙ ap (pairs acts) same))
    (receives_follow top (pids_of streams) acts os runs)
verdict_follows top streams acts other v = tt

pub verdict_pairs : (top : ℕ) (streams : List Stream) (acts : List Act) (v : Verdict)
    → IsVerdict top streams acts v
    → PairsAll top streams acts v
verdict_pairs top streams acts (Yes ps) v = λ os runs.
    let same : v.0 ≡ os = same_Some _ _ (sym v.1 ∙ runs) in
    subst (AllPaired os) (sym (v.3 ∙ ap (pairs acts) same))
    (receives_are_paired top (pids_of streams) acts os runs)
verdict_pairs top streams acts other v = tt

abbrev pub Rises : Event → Type 0
Rises e = e.serial.prev < e.serial.this

one_rises : (report : Option Event) (b : Bool) → ((e : Event) → report ≡ Some e → Rises e)
    → All Rises (if b then option_to_list report else [])
one_rises (Some e) true rises = All-cons Rises e [] (rises e refl) (All-nil Rises)
one_rises None true rises = All-nil Rises
one_rises report b rises = All-nil Rises

pub stream_rises : (top : ℕ) (acts : List Act) (os : List Outcome) (p : Pid)
    → All (KeepsSound top) os
    → All Rises (stream acts os p)
stream_rises top [] os p all = All-nil Rises
stream_rises top (a ∷ acts) [] p all = All-nil Rises
stream_rises top (a ∷ acts) (o ∷ os) p all =
    All-append Rises (if pid_eq (actor a) p then option_to_list o.report else []) (stream acts os p)
    (one_rises o.report (pid_eq (actor a) p) (All-head (KeepsSound top) o os all).report)
    (stream_rises top acts os p (All-tail (KeepsSound top) o os all))

pub verdict_rises : (top : ℕ) (streams : List Stream) (acts : List Act) (v : Verdict)
    → IsVerdict top streams acts v
    → RisesOnYes streams v
verdict_rises top streams acts (Yes ps) v =
    λ k d within. subst (All Rises) (v.2 k d within)
    (stream_rises top acts v.0 (get_or streams k d).pid
    (run_sound top (pids_of streams) acts v.0 v.1))
verdict_rises top streams acts other v = tt
