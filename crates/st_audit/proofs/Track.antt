-- In settled streams each item's acts run, and lead to the world that the moves say and report the
-- events that the moves tell. So at the end they show the told events.
use Rattle.std.proofs.Common.{add-one, ◌≡◌, ℕ, ◌+◌, ◌<◌, ◌≤◌, suc, false, not, List, [], ◌∷◌, ◌++◌}
use Rattle.std.proofs.Common.{take, drop, length, get_or, Some, None, Err, append_assoc, slice_get}
use Rattle.std.proofs.Common.{refl, sym, ◌∙◌, ap, subst}
use Rattle.std.proofs.lemmas.Bool.{eq-eqb}
use Rattle.std.proofs.lemmas.List.{append-nil, take_all}
use Rattle.std.proofs.lemmas.Option.{same_Some}
use Rattle.st_core.specs.declared.types.Pid.{Pid}
use Rattle.st_core.specs.declared.types.Event.{Event}
use Rattle.st_core.specs.declared.types.Act.{Act}
use Rattle.st_core.specs.Laws.{NoReset}
use Rattle.st_core.specs.State.{State, zero_state}
use Rattle.st_core.specs.Step.{Outcome}
use Rattle.st_core.specs.Run.{Stream, Shows, pids_of, run, run_from, stream}
use Rattle.st_core.specs.Pairs.{pairs}
use Rattle.st_core.specs.Streams.{IsStreams}
use Rattle.st_core.specs.Verdict as verdicts
use Rattle.st_core.proofs.ForCallers.{all_at, one_verdict}
use Rattle.st_order.specs.declared.item.Item.{Item}
use Rattle.st_order.specs.declared.item.Item.TheVariants as item
use Rattle.st_order.specs.Items.{event_of}
use Rattle.st_order.specs.Order.{IsOrder}
use Rattle.st_plan.specs.Marks.{all_told, told_parts, Marks}
use Rattle.st_plan.specs.Moves.{Move, clock, earlier_of, is_taking, move_by, moves}
use Rattle.st_plan.specs.Build.{state_after, tracers_after, GoesOn}
use Rattle.st_plan.specs.Plain.{out_of_turn, event_count, told_of_moves, told_of_move, IsSettled}
use Rattle.st_plan.proofs.ForCallers.{take_more, clock_at, earlier_more, goes_on, in_turn_at}
use Rattle.st_plan.proofs.ForCallers.{moves_append, one_move, opens, order_there, run_append}
use Rattle.st_plan.proofs.ForCallers.{state_append, stream_append, stream_silent, acts_none}
use Rattle.st_plan.proofs.ForCallers.{append_none, tells_only, tells_told_events, told_pids}
use Rattle.st_plan.proofs.ForCallers.{tracers_none, IsKept, IsThere}
use Rattle.st_audit.specs.declared.construction.Halt.{Halt}
use Rattle.st_audit.specs.declared.construction.Halt.TheVariants as halt
use Rattle.st_audit.specs.Findings.{IsNo}
use Rattle.st_audit.specs.declared.construction.Construction.{Construction}
use Rattle.st_audit.specs.Construction.{turn_by}
use Rattle.st_audit.specs.Progress.{acts_turn, Meets, SaysNothing, WentThrough}
use Rattle.st_audit.proofs.Attempts.{done_by, only_memory}
use Rattle.st_audit.proofs.ItemPlaces.{event_there, split_at}

-- THE VERDICT

-- acts that show the streams have the verdict yes alone
pub shown_is_yes : (top : ℕ) (streams : List Stream) (acts : List Act) (v : verdicts.Verdict)
    → Shows top streams acts → verdicts.IsVerdict top streams acts v → IsNo v → ⊥
shown_is_yes top streams acts v shows is refused =
    subst IsNo (one_verdict top streams acts v (verdicts.Yes (pairs acts shows.0)) is
    (shows.0, shows.1, shows.2, refl)) refused

-- ON THE WAY

-- the acts of these items, and the state to which they led
pub record IsOnTrack (top : ℕ) (streams : List Stream) (marks : Marks) (xs : List Item) (s : State)
    (acts : List Act)
    : Type 0 where
  pub outcomes : List Outcome
  pub runs : run top (pids_of streams) acts ≡ Some outcomes
  pub after : s ≡ state_after (zero_state (pids_of streams)) outcomes
  pub kept : IsKept streams marks (earlier_of streams xs) s
  pub tells : (p : Pid) → stream acts outcomes p ≡ told_of_moves marks p (moves streams xs)
  pub one_trace : NoReset acts

-- the tracers lead to the state before the first item
pub on_track : (top : ℕ) (streams : List Stream) (marks : Marks) (s : State) (os : List Outcome)
    → run_from top (zero_state (pids_of streams)) (tracers_after None (pids_of streams)) ≡ Some os
    → s ≡ state_after (zero_state (pids_of streams)) os
    → IsOnTrack top streams marks [] s (tracers_after None (pids_of streams))
on_track top streams marks s os runs after =
    let pids = pids_of streams in
    let tracers = tracers_after None pids in
    let opening = opens top streams marks in
    let o = opening.0 in
    let same : o.os ≡ os = same_Some o.os os (sym o.runs ∙ runs) in
    record {
      outcomes = os;
      runs = runs;
      after = after;
      kept = subst (IsKept streams marks []) (ap (state_after (zero_state pids)) same ∙ sym after)
          opening.1;
      tells = λ p. ap (λ ps. stream tracers ps p) (sym same)
          ∙ stream_silent tracers o.os p o.silent;
      one_trace = tracers_none None pids;
    }

-- THE BEGINNING

-- the tracers were put, and nothing else
pub record IsBegun (top : ℕ) (streams : List Stream) (s : State) (acts : List Act) : Type 0 where
  pub outcomes : List Outcome
  pub runs : run_from top (zero_state (pids_of streams)) (tracers_after None (pids_of streams))
      ≡ Some outcomes
  pub after : s ≡ state_after (zero_state (pids_of streams)) outcomes
  pub put : acts ≡ tracers_after None (pids_of streams)

module _ {top : ℕ} (streams : List Stream) (pids : List Pid) (are : pids ≡ pids_of streams)
    (old new : Construction top) (zero : old.world ≡ zero_state (pids_of streams)) where
  abbrev plan : List Act
  plan = tracers_after None pids

  abbrev from : State
  from = zero_state (pids_of streams)

  pub tracers_begin : old.acts ≡ []
      → WentThrough {T = Unit {0}} SaysNothing (acts_turn top old.world plan) old tt new
      → IsBegun top streams new.world new.acts
  tracers_begin empty went =
      let made = (done_by {T = Unit {0}} SaysNothing plan old tt new went).made in
      record {
        outcomes = made.outcomes;
        runs = ap (λ ps. run_from top from (tracers_after None ps)) (sym are)
            ∙ ap (λ s. run_from top s plan) (sym zero) ∙ made.runs;
        after = made.after ∙ ap (λ s. state_after s made.outcomes) zero;
        put = made.put ∙ ap (λ xs. xs ++ plan) empty ∙ ap (tracers_after None) are;
      }

  -- the tracers run, so they halt only because memory ran out
  pub opening_memory : (h : Halt)
      → Meets {T = Unit {0}} SaysNothing (acts_turn top old.world plan) old (Err h) new
      → h ≡ halt.Memory
  opening_memory h meets =
      let o = (opens top streams all_told).0 in
      let runs : run_from top old.world plan ≡ Some o.os = ap (λ s. run_from top s plan) zero
      ∙ ap (λ ps. run_from top from (tracers_after None ps)) are ∙ o.runs in
      only_memory {T = Unit {0}} SaysNothing (acts_turn top old.world plan) plan o.os old h new
      (ap (turn_by top old.world plan) runs) meets

-- ITEM BY ITEM

told_append : (marks : Marks) (p : Pid) (ms ns : List Move) → told_of_moves marks p (ms ++ ns)
    ≡ told_of_moves marks p ms ++ told_of_moves marks p ns
told_append marks p [] ns = refl
told_append marks p (m ∷ ms) ns =
    ap (λ es. told_of_move marks p m ++ es) (told_append marks p ms ns)
    ∙ sym (append_assoc (told_of_move marks p m) (told_of_moves marks p ms)
    (told_of_moves marks p ns))

in_turn_by : (earlier : List Move) (x : Item) (e : Event)
    → ((p : Pid) (i : ℕ) → (move_by x e).item ≡ item.Reported p i → event_count p earlier ≡ i)
    → out_of_turn earlier (move_by x e) ≡ false
in_turn_by earlier (item.Reported p i) e turn =
    ap not (eq-eqb (event_count p earlier) i (turn p i refl))
in_turn_by earlier (item.Hidden p i) e turn = refl

-- what stands for an item if there is none
abbrev pub none : Item
none = item.Reported (record { node = 0; number = 0 }) 0

-- the item's move is in its turn, its stamp is above the clock, its acts run, and the state after
-- them is what the moves say
pub record GoesNext (top : ℕ) (streams : List Stream) (marks : Marks) (earlier : List Move)
    (x : Item) (s : State)
    : Type 0 where
  pub event : Event
  pub there : event_of streams x ≡ Some event
  pub in_turn : out_of_turn earlier (move_by x event) ≡ false
  pub below : is_taking (move_by x event) ≡ false
      → clock (move_by x event).who earlier < (move_by x event).event.serial.this
  pub goes : GoesOn top streams marks s (move_by x event)
  pub kept : IsKept streams marks (move_by x event ∷ earlier) (state_after s goes.outcomes)

module _ (top : ℕ) (streams : List Stream) (marks : Marks) (sound : IsStreams streams)
    (settled : IsSettled top streams) (xs : List Item) (order : IsOrder streams xs) where
  module _ (n : ℕ) (x : Item) (at : slice_get xs n ≡ Some x) (s : State) (acts : List Act)
      (track : IsOnTrack top streams marks (take n xs) s acts) where
    pub goes_next : GoesNext top streams marks (earlier_of streams (take n xs)) x s
    goes_next =
        let there = all_at (IsThere streams) xs n x
        (order_there streams sound.draft.rising xs order) at in
        let found = event_there streams x there in
        let earlier = earlier_of streams (take n xs) in
        let later = moves streams (drop (suc n) xs) in
        let m = move_by x found.0 in
        let split = split_at streams xs n x found.0 at found.1 in
        let on = goes_on top streams marks sound settled xs order earlier later m split s
        track.kept in
        record {
          event = found.0;
          there = found.1;
          in_turn = in_turn_by earlier x found.0
              (in_turn_at top streams marks sound settled xs order earlier later m
              split);
          below = clock_at top streams marks sound settled xs order earlier later m split;
          goes = on.0;
          kept = on.1;
        }

    -- after an item's acts the construction is still on track
    pub track_next : (m : GoesNext top streams marks (earlier_of streams (take n xs)) x s)
        (new : State) (now : List Act)
        → now ≡ acts ++ m.goes.acts → new ≡ state_after s m.goes.outcomes
        → IsOnTrack top streams marks (take (n + 1) xs) new now
    track_next m new now put after =
        let g = m.goes in
        let e = m.event in
        let there = m.there in
        let move = move_by x e in
        let zero = zero_state (pids_of streams) in
        let os = track.outcomes in
        let both = os ++ g.outcomes in
        let before = moves streams (take n xs) in
        let runs : run_from top zero (acts ++ g.acts) ≡ Some both =
        run_append top zero acts g.acts os g.outcomes
        track.runs (ap (λ t. run_from top t g.acts) (sym track.after) ∙ g.runs) in
        let state : new ≡ state_after zero both =
        after ∙ ap (λ t. state_after t g.outcomes) track.after
        ∙ sym (state_append zero os g.outcomes) in
        let taken : take (n + 1) xs ≡ take n xs ++ x ∷ [] = rw add-one (take_more xs n x at) in
        let more : moves streams (take (n + 1) xs) ≡ before ++ move ∷ [] =
        ap (moves streams) taken ∙ moves_append streams (take n xs) (x ∷ [])
        ∙ ap (λ ms. before ++ ms) (one_move streams x e [] there) in
        record {
          outcomes = both;
          runs = ap (run_from top zero) put ∙ runs;
          after = state;
          kept = subst (λ ms. IsKept streams marks ms new)
              (sym (earlier_more streams xs n x e at there))
              (subst (IsKept streams marks (move ∷ earlier_of streams (take n xs))) (sym after)
              m.kept);
          tells = λ p. ap (λ ys. stream ys both p) put
              ∙ stream_append top zero acts g.acts os g.outcomes p track.runs
              ∙ ap (λ es. es ++ stream g.acts g.outcomes p) (track.tells p)
              ∙ ap (λ es. told_of_moves marks p before ++ es)
              (g.tells p ∙ sym (append-nil (told_of_move marks p move)))
              ∙ sym (told_append marks p before (move ∷ []))
              ∙ ap (told_of_moves marks p) (sym more);
          one_trace = subst NoReset (sym put) (append_none acts g.acts track.one_trace
              (acts_none streams marks g.before move g.acts g.are));
        }

  -- at the end all told events are shown
  pub track_shows : (n : ℕ) (s : State) (acts : List Act) → length xs ≤ n
      → IsOnTrack top streams marks (take n xs) s acts → Shows top (told_parts marks streams) acts
  track_shows n s acts past track =
      let all : take n xs ≡ xs = take_all n xs past in
      let told = tells_told_events top streams marks sound settled xs order in
      let shown = tells_only streams marks (moves streams xs) sound told in (
        track.outcomes,
        subst (λ ps. run top ps acts ≡ Some track.outcomes) (told_pids marks streams) track.runs,
        λ k d within.
            let x = get_or (told_parts marks streams) k d in
            track.tells x.pid ∙ ap (λ ys. told_of_moves marks x.pid (moves streams ys)) all
            ∙ shown k d within,
      )
