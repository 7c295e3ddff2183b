-- The construction is in the state to which the items so far led, so the outcome of the next item
-- decides how the course goes on, or where it ends.
use Rattle.std.proofs.Common.{◌≡◌, ℕ, ◌+◌, ◌-◌, ◌<◌, ◌≤◌, ◌==◌, zero, suc, false, List, [], ◌∷◌}
use Rattle.std.proofs.Common.{◌++◌, take, drop, length, get_or, Option, Some, None, option_map}
use Rattle.std.proofs.Common.{slice_get, unwrap_or, refl, sym, ◌∙◌, ap, arith}
use Rattle.std.specs.List.{last_or}
use Rattle.std.proofs.Math.ListN.{drop_of_length-le}
use Rattle.std.proofs.Math.Seq.{drop-cons}
use Rattle.std.proofs.lemmas.Bool.Decides.{nat_tests}
use Rattle.std.proofs.lemmas.Option.{slice_get-get_or}
use Rattle.st_core.specs.declared.types.Pid.{Pid}
use Rattle.st_core.specs.declared.types.Event.{Event}
use Rattle.st_core.specs.declared.types.Act.{Act}
use Rattle.st_core.specs.Pid.{IsRising}
use Rattle.st_core.specs.State.{State, zero_state}
use Rattle.st_core.specs.Step.{Outcome}
use Rattle.st_core.specs.Run.{Stream, pids_of, run_from}
use Rattle.st_core.proofs.ForCallers.{all_at}
use Rattle.st_order.specs.declared.item.Item.{Item}
use Rattle.st_order.specs.Items.{event_of, item_place}
use Rattle.st_order.specs.Order.{IsOrder}
use Rattle.st_plan.specs.Marks.{all_told}
use Rattle.st_plan.specs.Moves.{Move, earlier_of, move_by, moves}
use Rattle.st_plan.specs.Build.{state_after, tracers_after}
use Rattle.st_plan.proofs.ForCallers.{earlier_more, item_is, one_move, order_there, IsThere}
use Rattle.st_audit.specs.declared.finding.Reason.{Reason}
use Rattle.st_audit.specs.Construction.{course, end_of, first_acts, last_place, led_to, turn, End}
use Rattle.st_audit.specs.Construction.{Judged, Unfounded, Turn, Through, Stopped, Refused}
use Rattle.st_audit.proofs.ItemPlaces.{event_there}

-- how the course goes on after a turn
abbrev pub went_on : ℕ → List Stream → Option (Pid × ℕ) → State → List Move → List Act → Move
    → List Move → Turn → End
went_on top streams end s earlier acts m ms (Through more os) =
    course top streams end (state_after s os) (m ∷ earlier) (acts ++ more) ms
went_on top streams end s earlier acts m ms (Stopped more) =
    Judged (acts ++ more) (Some (item_place m.item))
went_on top streams end s earlier acts m ms (Refused r) = Unfounded (item_place m.item) r

-- THE BEGINNING

pub some_item : (n : ℕ) → (n == 0) ≡ false → 0 < n
some_item n h = grind (arith, nat_tests)

tracers_first : (streams : List Stream) (xs : List Item) → 0 < length xs
    → first_acts streams xs ≡ tracers_after None (pids_of streams)
tracers_first streams [] some = absurd (omega arith)
tracers_first streams (x ∷ xs) some = refl

-- the course of all items is that of the items from n on, from this state and these acts
abbrev pub IsOnCourse : ℕ → List Stream → List Item → ℕ → State → List Act → Type 0
IsOnCourse top streams xs n s acts = end_of top streams xs
    ≡ course top streams (last_place xs) s (earlier_of streams (take n xs)) acts
    (moves streams (drop n xs))

pub begins_course : (top : ℕ) (streams : List Stream) (xs : List Item) (s : State)
    (os : List Outcome)
    → 0 < length xs → run_from top (zero_state (pids_of streams))
    (tracers_after None (pids_of streams)) ≡ Some os
    → s ≡ state_after (zero_state (pids_of streams)) os
    → IsOnCourse top streams xs 0 s (tracers_after None (pids_of streams))
begins_course top streams xs s os some runs after =
    let zero = zero_state (pids_of streams) in
    let first = first_acts streams xs in
    let same = tracers_first streams xs some in
    let runs_first : run_from top zero first ≡ Some os = ap (run_from top zero) same ∙ runs in
    let led : led_to top zero first ≡ s = ap (λ o. state_after zero (unwrap_or o [])) runs_first
    ∙ sym after in
    ap (λ t. course top streams (last_place xs) t [] first (moves streams xs)) led
    ∙ ap (λ ys. course top streams (last_place xs) s [] ys (moves streams xs)) same

-- ONE ITEM MORE

module _ (top : ℕ) (streams : List Stream) (rising : IsRising (pids_of streams)) (xs : List Item)
    (order : IsOrder streams xs) (n : ℕ) (d : Item) (within : n < length xs) (s : State)
    (acts : List Act)
    (way : IsOnCourse top streams xs n s acts) where
  abbrev here : Item
  here = get_or xs n d

  at : slice_get xs n ≡ Some here
  at = slice_get-get_or xs n d within

  -- the next item's event, and how the course goes on after its turn
  pub record IsNext : Type 0 where
    pub event : Event
    pub there : event_of streams here ≡ Some event
    pub goes : (t : Turn) → turn top streams all_told s (earlier_of streams (take n xs))
        (move_by here event) ≡ t
        → end_of top streams xs ≡ went_on top streams (last_place xs) s
        (earlier_of streams (take n xs)) acts
        (move_by here event) (moves streams (drop (n + 1) xs)) t

  pub course_item : IsNext
  course_item =
      let found = event_there streams here
      (all_at (IsThere streams) xs n here (order_there streams rising xs order)
      (slice_get-get_or xs n d within)) in
      let m = move_by here found.0 in
      let earlier = earlier_of streams (take n xs) in
      let rest = moves streams (drop (n + 1) xs) in
      let follows : suc n ≡ n + 1 = omega arith in
      let left : moves streams (drop n xs) ≡ m ∷ rest =
      ap (moves streams) (drop-cons xs n d within) ∙ one_move streams here found.0 (drop (suc n) xs)
      found.1
      ∙ ap (λ k. m ∷ moves streams (drop k xs)) follows in
      record {
        event = found.0;
        there = found.1;
        goes = λ t is. way ∙ ap (course top streams (last_place xs) s earlier acts) left
            ∙ ap (went_on top streams (last_place xs) s earlier acts m rest) is;
      }

  -- the outcome of the next item
  abbrev pub here_turn : Turn
  here_turn = turn top streams all_told s (earlier_of streams (take n xs))
      (move_by here course_item.event)

  pub course_next : (new : State) (now more : List Act) (os : List Outcome)
      → here_turn ≡ Through more os
      → new ≡ state_after s os → now ≡ acts ++ more → IsOnCourse top streams xs (n + 1) new now
  course_next new now more os through after put =
      let rest = moves streams (drop (n + 1) xs) in
      let end = last_place xs in
      let m = move_by here course_item.event in
      let earlier = earlier_of streams (take n xs) in
      course_item.goes (Through more os) through
      ∙ ap (λ t. course top streams end t (m ∷ earlier) (acts ++ more) rest) (sym after)
      ∙ ap (λ ys. course top streams end new (m ∷ earlier) ys rest) (sym put)
      ∙ ap (λ ms. course top streams end new ms now rest)
      (sym (earlier_more streams xs n here course_item.event at course_item.there))

  module _ (place : Pid × ℕ) (is : place ≡ item_place (get_or xs n d)) where
    -- where the course stops
    pub course_stops : (now more : List Act) → here_turn ≡ Stopped more → now ≡ acts ++ more
        → Judged now (Some place) ≡ end_of top streams xs
    course_stops now more stopped put =
        sym (course_item.goes (Stopped more) stopped
        ∙ ap (λ ys. Judged ys (Some (item_place (move_by here course_item.event).item))) (sym put)
        ∙ ap (λ (y : Item). Judged now (Some (item_place y))) (item_is here course_item.event)
        ∙ ap (λ (p : Pid × ℕ). Judged now (Some p)) (sym is))

    -- where a reason of the auditor's refuses the item
    pub course_refused : (r : Reason) → here_turn ≡ Refused r
        → Unfounded place r ≡ end_of top streams xs
    course_refused r refused =
        sym (course_item.goes (Refused r) refused
        ∙ ap (λ (y : Item). Unfounded (item_place y) r) (item_is here course_item.event)
        ∙ ap (λ (p : Pid × ℕ). Unfounded p r) (sym is))

-- THE END

pub last_at : (o : Option Item) (xs : List Item) (k : ℕ) (d : Item) → length xs ≡ suc k
    → last_or o xs ≡ Some (get_or xs k d)
last_at o (x ∷ []) zero d h = refl
last_at o (x ∷ y ∷ xs) (suc k) d h = last_at (Some x) (y ∷ xs) k d (omega arith)
last_at o xs k d h = absurd (omega arith)

pub course_ends : (top : ℕ) (streams : List Stream) (xs : List Item) (n : ℕ) (d : Item) (s : State)
    (acts : List Act)
    (place : Pid × ℕ) → IsOnCourse top streams xs n s acts → length xs ≤ n → 0 < length xs
    → place ≡ item_place (get_or xs (length xs - 1) d)
    → Judged acts (Some place) ≡ end_of top streams xs
course_ends top streams xs n d s acts place way past some is =
    sym (way
    ∙ ap (λ ys. course top streams (last_place xs) s (earlier_of streams (take n xs)) acts
    (moves streams ys))
    (drop_of_length-le xs past)
    ∙ ap (λ o. Judged acts (option_map item_place o))
    (last_at None xs (length xs - 1) d (omega arith))
    ∙ ap (λ (p : Pid × ℕ). Judged acts (Some p)) (sym is))
