-- While acts pass, the counts say which events are left, so they give the verdict. After a no the
-- acts don't show the streams, since the first acts of a run have the first outcomes.
use Rattle.std.proofs.Common.{◌≡◌, ℕ, ◌+◌, ◌<◌, ◌≤◌, zero, suc, Bool, true, false, cond, List, []}
use Rattle.std.proofs.Common.{◌∷◌, ◌++◌, length, take, drop, get_or, slice_get, Option, Some, None}
use Rattle.std.proofs.Common.{IsSome, is_some, option_map, find, nat_lt, refl, sym, ◌∙◌, ap, subst}
use Rattle.std.proofs.Common.{arith}
use mathlib.Core.List.{IsPrefix}
use Rattle.std.proofs.lemmas.Bool.{le-ltb, lt-ltb, ltb-true}
use Rattle.std.proofs.lemmas.List.{length-map, length-take-le, take-append-drop, take_all}
use Rattle.std.proofs.lemmas.Option.{none-some, same_Some, slice_get_within}
use Rattle.st_core.specs.declared.types.Event.{Event}
use Rattle.st_core.specs.declared.types.Pid.{Pid}
use Rattle.st_core.specs.Pid.{IsRising}
use Rattle.st_core.specs.State.{State, zero_state}
use Rattle.st_core.specs.Step.{Outcome}
use Rattle.st_core.specs.Run.{Stream, pids_of}
use Rattle.st_core.specs.Streams.{events_of}
use Rattle.node_machine.specs.Node.{NodeAct, node_actor, node_run, node_step}
use Rattle.node_machine.proofs.ForCallers.{node_run_take}
use Rattle.node_streams.specs.Runs.{node_stream}
use Rattle.node_check.specs.declared.verdict.NodeVerdict.{NodeVerdict}
use Rattle.node_check.specs.declared.verdict.NodeVerdict.TheVariants as verdict
use Rattle.node_check.specs.Progress.{counts_after, IsLeftAt, IsMatchedOnNode, IsNextEvent}
use Rattle.node_check.specs.Progress.{IsPassedOnNode, NoneIsLeftBefore}
use Rattle.node_check.specs.Steps.{IsStepOnNode}
use Rattle.node_check.specs.Verdict.{IsNodeVerdict, IsPassingOnNode, left_on_node, PassesOnNode}
use Rattle.node_check.specs.Verdict.{RefutesOnNo, ShowsOnNode}
use Rattle.node_check.proofs.Matching.{counts_after_len, events_there, matched_more}
use Rattle.node_check.proofs.Matching.{next_since_front, pid_at}
use Rattle.node_check.proofs.Runs.{length_run, run_append, state_append, stream_take}

found_first : {A : Type 0} (p : A → Bool) (xs : List A) (k : ℕ) (d : A) → k < length xs
    → p (get_or xs k d) ≡ true → ((j : ℕ) → j < k → p (get_or xs j d) ≡ false)
    → find p xs ≡ Some (get_or xs k d)
found_first p [] k d within here before = absurd (omega arith)
found_first p (x ∷ xs) zero d within here before = ap (λ b. cond b (Some x) (find p xs)) here
found_first p (x ∷ xs) (suc k) d within here before =
    ap (λ b. cond b (Some x) (find p xs)) (before 0 (omega arith))
    ∙ found_first p xs k d (omega arith) here (λ j below. before (suc j) (omega arith))

-- WHAT IS KEPT

module _ (streams : List Stream) (rising : IsRising (pids_of streams)) (acts : List NodeAct)
    (s : State) (counts : List ℕ) (p : IsPassedOnNode streams acts s counts) where
  in_pids : (k : ℕ) → k < length streams → k < length (pids_of streams)
  in_pids k within = let size = length-map streams (λ (x : Stream). x.pid) in omega arith

  -- a process reported the front of its stream
  front_at : (k : ℕ) (d : Stream) → k < length streams
      → node_stream acts p.outcomes (get_or streams k d).pid
      ≡ take (get_or counts k 0) (get_or streams k d).events
  front_at k d within =
      (p.matched k (get_or streams k d).pid (pid_at streams k d within)).first
      ∙ ap (take (get_or counts k 0)) (events_there streams k d rising within)

  count_within : (k : ℕ) (d : Stream) → k < length streams
      → get_or counts k 0 ≤ length (get_or streams k d).events
  count_within k d within =
      subst (λ es. get_or counts k 0 ≤ length es) (events_there streams k d rising within)
      (p.matched k (get_or streams k d).pid (pid_at streams k d within)).within

  count_told : (k : ℕ) (d : Stream) → k < length streams
      → length (node_stream acts p.outcomes (get_or streams k d).pid) ≡ get_or counts k 0
  count_told k d within =
      ap length (front_at k d within)
      ∙ length-take-le (get_or counts k 0) (get_or streams k d).events (count_within k d within)

  pub is_passing : IsPassingOnNode streams acts p.outcomes
  is_passing = record {
    runs = p.runs;
    fronts = λ k d within.
        let es = (get_or streams k d).events in (
          drop (get_or counts k 0) es,
          ap (λ xs. xs ++ drop (get_or counts k 0) es) (front_at k d within)
              ∙ take-append-drop (get_or counts k 0) es,
        );
  }

  -- THE VERDICT

  none_at : (k : ℕ) (d : Stream) → k < length streams → NoneIsLeftBefore streams counts (suc k)
      → length (get_or streams k d).events ≤ get_or counts k 0
  none_at k d within none =
      subst (λ es. length es ≤ get_or counts k 0) (events_there streams k d rising within)
      (none k (get_or streams k d).pid (omega arith) (pid_at streams k d within))

  pub yes_verdict : NoneIsLeftBefore streams counts (length (pids_of streams))
      → IsNodeVerdict streams acts verdict.Yes
  yes_verdict none = (
    p.outcomes,
    p.runs,
    (λ k d within.
        let size = in_pids k within in
        front_at k d within
        ∙ take_all (get_or counts k 0) (get_or streams k d).events
        (none_at k d within (λ j q below at. none j q (omega arith) at))),
  )

  abbrev pub test : Stream → Bool
  test x = nat_lt (length (node_stream acts p.outcomes x.pid)) (length x.events)

  pub left_verdict : (who : Pid) → IsLeftAt streams counts who
      → IsNodeVerdict streams acts (verdict.Left who)
  left_verdict who left =
      let k = left.place in
      let d : Stream = record { pid = who; events = [] } in
      let in_list = slice_get_within (pids_of streams) k who left.is_there in
      let size = length-map streams (λ (x : Stream). x.pid) in
      let within : k < length streams = omega arith in
      let x = get_or streams k d in
      let is : x.pid ≡ who = same_Some _ _ (sym (pid_at streams k d within) ∙ left.is_there) in
      let es : events_of streams who ≡ x.events =
      ap (events_of streams) (sym is) ∙ events_there streams k d rising within in
      let more : get_or counts k 0 < length x.events =
      subst (λ xs. get_or counts k 0 < length xs) es left.left in
      let told = count_told k d within in
      let first : left_on_node streams acts p.outcomes ≡ Some x =
      found_first test streams k d within (lt-ltb _ _ (omega arith))
      (λ j below.
      let j_within : j < length streams = omega arith in
      let j_told = count_told j d j_within in
      let j_none = none_at j d j_within (λ i q before at. left.before i q (omega arith) at) in
      le-ltb _ _ (omega arith)) in
      (p.outcomes, is_passing, x, first, is)

  -- ONE MORE ACT

  pub stuck_more : (a : NodeAct) → node_step s a ≡ None
      → node_run (pids_of streams) (acts ++ a ∷ []) ≡ None
  stuck_more a none =
      run_append (zero_state (pids_of streams)) acts a p.outcomes p.runs
      ∙ ap (option_map (λ o. p.outcomes ++ o ∷ []))
      (ap (λ x. node_step x a) (sym p.is_state) ∙ none)

  module _ (a : NodeAct) (told : Option Event) (new : State) (step : IsStepOnNode s a told new)
      (place : ℕ) (me : Pid) (at : slice_get (pids_of streams) place ≡ Some me)
      (own : node_actor a ≡ me) where
    abbrev pub o : Outcome
    o = step.outcome

    even : length p.outcomes ≡ length acts
    even = length_run (zero_state (pids_of streams)) acts p.outcomes p.runs

    run_more : node_run (pids_of streams) (acts ++ a ∷ []) ≡ Some (p.outcomes ++ o ∷ [])
    run_more =
        run_append (zero_state (pids_of streams)) acts a p.outcomes p.runs
        ∙ ap (option_map (λ x. p.outcomes ++ x ∷ []))
        (ap (λ x. node_step x a) (sym p.is_state) ∙ step.steps)

    -- the act passes if its report is its actor's next event
    pub passed_more : IsNextEvent (events_of streams me) (get_or counts place 0) told
        → IsPassedOnNode streams (acts ++ a ∷ []) new (counts_after counts place told)
    passed_more next = record {
      outcomes = p.outcomes ++ o ∷ [];
      runs = run_more;
      is_state =
          sym step.is_after ∙ state_append (zero_state (pids_of streams)) p.outcomes o;
      counts_len = counts_after_len counts place told ∙ p.counts_len;
      matched =
          subst (λ t. (k : ℕ) (q : Pid) → slice_get (pids_of streams) k ≡ Some q
          → IsMatchedOnNode streams (acts ++ a ∷ []) (p.outcomes ++ o ∷ []) q
          (get_or (counts_after counts place t) k 0)) step.is_report
          (matched_more streams acts a p.outcomes o counts place me rising even p.counts_len at own
          p.matched
          (subst (IsNextEvent (events_of streams me) (get_or counts place 0)) (sym step.is_report)
          next));
    }

    -- else it differs
    pub differs_more : (IsNextEvent (events_of streams me) (get_or counts place 0) told → ⊥)
        → IsSome (node_run (pids_of streams) (acts ++ a ∷ []))
        × ¬ PassesOnNode streams (acts ++ a ∷ [])
    differs_more other = (
      ap (λ (r : Option (List Outcome)). is_some r) run_more,
      λ passes.
          let same : passes.0 ≡ p.outcomes ++ o ∷ [] =
          same_Some _ _ (sym passes.1.runs ∙ run_more) in
          let in_list = slice_get_within (pids_of streams) place me at in
          let size = length-map streams (λ (x : Stream). x.pid) in
          let within : place < length streams = omega arith in
          let d : Stream = record { pid = me; events = [] } in
          let x = get_or streams place d in
          let is : x.pid ≡ me = same_Some _ _ (sym (pid_at streams place d within) ∙ at) in
          let es : x.events ≡ events_of streams me =
          sym (events_there streams place d rising within) ∙ ap (events_of streams) is in
          let front : IsPrefix (node_stream (acts ++ a ∷ []) (p.outcomes ++ o ∷ []) me)
          (events_of streams me) =
          subst (λ os. IsPrefix (node_stream (acts ++ a ∷ []) os me) (events_of streams me)) same
          (subst (λ q. IsPrefix (node_stream (acts ++ a ∷ []) passes.0 q) (events_of streams me)) is
          (subst (IsPrefix (node_stream (acts ++ a ∷ []) passes.0 x.pid)) es
          (passes.1.fronts place d within))) in
          other (subst (IsNextEvent (events_of streams me) (get_or counts place 0)) step.is_report
          (next_since_front streams acts a p.outcomes o counts place me rising even p.counts_len at
          own p.matched front)),
    )

-- A NO

-- the first acts of a run that shows the streams pass
passes_take : (streams : List Stream) (acts : List NodeAct) (n : ℕ) → ShowsOnNode streams acts
    → PassesOnNode streams (take n acts)
passes_take streams acts n shows = (
  take n shows.0,
  record {
    runs = node_run_take n (zero_state (pids_of streams)) acts shows.0 shows.1;
    fronts = λ k d within.
        let x = get_or streams k d in
        subst (IsPrefix (node_stream (take n acts) (take n shows.0) x.pid)) (shows.2 k d within)
        (stream_take acts shows.0 n x.pid);
  },
)

left_in : (test : Stream → Bool) (xs : List Stream) (x : Stream) → find test xs ≡ Some x
    → (k : ℕ) × (k < length xs) × (get_or xs k x ≡ x) × (test x ≡ true)
left_in test [] x h = absurd (none-some x h)
left_in test (y ∷ ys) x h =
    elim (test y) as (λ b. test y ≡ b
    → (k : ℕ) × (k < length (y ∷ ys)) × (get_or (y ∷ ys) k x ≡ x) × (test x ≡ true)) [
      | true ↦ λ passes.
          let is : y ≡ x =
          same_Some y x (sym (ap (λ b. cond b (Some y) (find test ys)) passes) ∙ h) in
          (0, omega arith, is, ap test (sym is) ∙ passes)
      | false ↦ λ fails.
          let later = left_in test ys x (sym (ap (λ b. cond b (Some y) (find test ys)) fails) ∙ h)
          in
          (suc later.0, (let below = later.1 in omega arith), later.2, later.3)
    ] refl

pub no_shows : (streams : List Stream) (acts : List NodeAct) (v : NodeVerdict)
    → IsNodeVerdict streams acts v → RefutesOnNo streams acts v
no_shows streams acts (verdict.Stuck n) is = λ shows.
    none-some (take (n + 1) shows.0)
    (sym is.2 ∙ node_run_take (n + 1) (zero_state (pids_of streams)) acts shows.0 shows.1)
no_shows streams acts (verdict.Differs n) is = λ shows.
    is.3 (passes_take streams acts (n + 1) shows)
no_shows streams acts (verdict.Left q) is = λ shows.
    let same : is.0 ≡ shows.0 = same_Some _ _ (sym is.1.runs ∙ shows.1) in
    let there = left_in (λ x. nat_lt (length (node_stream acts is.0 x.pid)) (length x.events))
    streams is.2 is.3 in
    let whole : node_stream acts is.0 is.2.pid ≡ is.2.events =
    ap (λ (os : List Outcome). node_stream acts os is.2.pid) same
    ∙ subst (λ (x : Stream). node_stream acts shows.0 x.pid ≡ x.events) there.2
    (shows.2 there.0 is.2 there.1) in
    let less = ltb-true _ _ there.3 in
    let size = ap length whole in
    absurd (omega arith)
no_shows streams acts verdict.Yes is = tt
