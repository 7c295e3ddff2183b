-- Each move of settled streams goes on in the order, whichever events are told, and the moves tell
-- the told events of each process. So the construction goes through, and its acts show the told
-- events.
use Rattle.std.proofs.Common.{◌≡◌, ℕ, zero, suc, ◌<◌, false, List, [], ◌∷◌, ◌++◌, reverse}
use Rattle.std.proofs.Common.{Some, All, get_or, refl, slice_get, ◌∙◌, ap, subst}
use Rattle.std.proofs.lemmas.Option.{none-some, same_Some, slice_get-get_or}
use Rattle.std.specs.List.{AllByRecursion}
use Rattle.st_core.specs.declared.types.Pid.{Pid}
use Rattle.st_core.specs.declared.types.Act.{Act}
use Rattle.st_core.specs.State.{State}
use Rattle.st_core.specs.Laws.{NoReset}
use Rattle.st_core.specs.Run.{Shows, Stream, pids_of}
use Rattle.st_core.specs.Streams.{events_of, IsStreams}
use Rattle.st_core.proofs.ForCallers.{all_at}
use Rattle.st_pair.proofs.ForCallers.{paired}
use Rattle.st_order.specs.declared.item.Item.{Item}
use Rattle.st_order.specs.declared.item.Item.TheVariants as item
use Rattle.st_order.specs.Order.{order, IsOrder}
use Rattle.st_order.proofs.ForCallers.{all_found, an_order, AreFound}
use Rattle.st_plan.specs.Marks.{told_events_from, told_parts, Marks}
use Rattle.st_plan.specs.Moves.{Move, clock, is_taking, move_by, moves}
use Rattle.st_plan.specs.Reasons.{uncaused}
use Rattle.st_plan.specs.Plain.{event_count, told_of_moves, IsSettled}
use Rattle.st_plan.specs.Build.{construction, state_after, GoesOn}
use Rattle.st_plan.proofs.EarlierMoves.{one_move, order_there, there_event}
use Rattle.st_plan.proofs.KeptState.{IsKept}
use Rattle.st_plan.proofs.FreeMoves.{along_at, settled_free, AllAlong, IsFree, IsInTurn}
use Rattle.st_plan.proofs.BuiltActs.{construction_shows, Serves}
use Rattle.st_plan.proofs.Clocks.{IsNext}
use Rattle.st_plan.proofs.OrderedMoves.{item_is, next_along, orderly, AreInTurn, AreThere}
use Rattle.st_plan.proofs.OrderedMoves.{IsClockBelow, IsOrderly}
use Rattle.st_plan.proofs.NextMoves.{serves_along}
use Rattle.st_plan.proofs.ProperEvents.{are_proper}
use Rattle.st_plan.proofs.ToldMoves.{tells_all, AreMoved}
use Rattle.st_plan.proofs.AllItems.{order_whole}
use Rattle.st_plan.proofs.OneTrace.{no_reset}

turns_of : (earlier ms : List Move) → AllAlong IsFree earlier ms → AreInTurn earlier ms
turns_of earlier [] all = tt
turns_of earlier (m ∷ ms) all = (all.0.turn, turns_of (m ∷ earlier) ms all.1)

-- an item of the order is that of a move at the same place
move_at : (streams : List Stream) (xs : List Item) (n : ℕ) (x : Item) → AreThere streams xs
    → slice_get xs n ≡ Some x
    → (m : Move) × (slice_get (moves streams xs) n ≡ Some m) × (m.item ≡ x)
move_at streams [] n x there at = absurd (none-some x at)
move_at streams (y ∷ xs) zero x there at =
    let e = there.0.0 in
    let cons = one_move streams y e xs (there_event streams y e there.0.1) in
    (move_by y e, ap (λ ms. slice_get ms 0) cons, item_is y e ∙ same_Some y x at)
move_at streams (y ∷ xs) (suc n) x there at =
    let rest = move_at streams xs n x there.1 at in
    let e = there.0.0 in
    let cons = one_move streams y e xs (there_event streams y e there.0.1) in
    (rest.0, ap (λ ms. slice_get ms (suc n)) cons ∙ rest.1, rest.2)

module _ (top : ℕ) (streams : List Stream) (marks : Marks) (sound : IsStreams streams)
    (settled : IsSettled top streams) (xs : List Item) (is_order : IsOrder streams xs) where
  there : AreThere streams xs
  there = order_there streams sound.draft.rising xs is_order

  free : AllAlong IsFree [] (moves streams xs)
  free = settled_free top streams settled xs is_order

  next : AllAlong (IsNext streams) [] (moves streams xs)
  next = next_along streams [] xs there tt is_order.rises (turns_of [] (moves streams xs) free)

  known : IsOrderly streams marks xs
  known = orderly streams marks (paired streams settled.accepted) xs there
      (order_whole streams xs is_order) is_order.rises (turns_of [] (moves streams xs) free)

  -- each move goes on
  pub each_serves : AllAlong (Serves top streams marks) [] (moves streams xs)
  each_serves = serves_along top streams marks (paired streams settled.accepted)
      (are_proper streams sound) settled.within [] xs there free known.clocks known.waits

  -- the moves tell the told events
  pub tells_told_events : (p : Pid) → told_of_moves marks p (moves streams xs)
      ≡ told_events_from (marks p) 0 (events_of streams p)
  tells_told_events p =
      let moved : AreMoved streams p (moves streams xs) = λ i e at.
      let place = order_whole streams xs is_order (item.Reported p i) e at in
      let m = move_at streams xs place.0 (item.Reported p i) there place.1 in
      (place.0, m.0, m.1, m.2) in
      tells_all streams marks p (moves streams xs) next moved

  module _ (earlier later : List Move) (m : Move)
      (split : moves streams xs ≡ reverse earlier ++ m ∷ later) where
    -- the acts of a move run from what those before it left, report what is told of it, and keep
    -- the invariant
    pub goes_on : (s : State) → IsKept streams marks earlier s
        → (g : GoesOn top streams marks s m) × IsKept streams marks (m ∷ earlier)
        (state_after s g.outcomes)
    goes_on = along_at (Serves top streams marks)
        (moves streams xs) earlier later m each_serves split

    free_at : IsFree earlier m
    free_at = along_at IsFree (moves streams xs) earlier later m free split

    -- a reported move comes right after the events of its process before it
    pub in_turn_at : (p : Pid) (i : ℕ) → m.item ≡ item.Reported p i → event_count p earlier ≡ i
    in_turn_at p i is = subst (IsInTurn earlier) is free_at.turn

    -- no reason holds of a move
    pub caused_at : uncaused earlier m ≡ false
    caused_at = free_at.caused

    -- at a stamp its process's clock is below its count
    pub clock_at : is_taking m ≡ false → clock m.who earlier < m.event.serial.this
    clock_at = along_at IsClockBelow (moves streams xs) earlier later m known.clocks split

-- WHAT IS SHOWN

pub told_pids : (marks : Marks) (streams : List Stream)
    → pids_of streams ≡ pids_of (told_parts marks streams)
told_pids marks [] = refl
told_pids marks (x ∷ streams) = ap (λ ps. x.pid ∷ ps) (told_pids marks streams)

-- if the moves tell the told events of all streams, they tell those of some of the streams
told_some : (marks : Marks) (all some : List Stream) (ms : List Move)
    → ((p : Pid) → told_of_moves marks p ms ≡ told_events_from (marks p) 0 (events_of all p))
    → AreFound all some → AllByRecursion (λ (x : Stream). told_of_moves marks x.pid ms ≡ x.events)
    (told_parts marks some)
told_some marks all [] ms told found = tt
told_some marks all (x ∷ some) ms told found = (
  told x.pid ∙ ap (told_events_from (marks x.pid) 0) found.0,
  told_some marks all some ms told found.1,
)

pub tells_only : (streams : List Stream) (marks : Marks) (ms : List Move) → IsStreams streams
    → ((p : Pid) → told_of_moves marks p ms ≡ told_events_from (marks p) 0 (events_of streams p))
    → All (λ (x : Stream). told_of_moves marks x.pid ms ≡ x.events) (told_parts marks streams)
tells_only streams marks ms sound told k d within =
    let shown = told_parts marks streams in
    let found = told_some marks streams streams ms told (all_found streams sound.draft.rising) in
    all_at (λ (x : Stream). told_of_moves marks x.pid ms ≡ x.events) shown k
    (get_or shown k d) found (slice_get-get_or shown k d within)

abbrev IsShown : ℕ → List Stream → Marks → List Stream → List Move → Type 0
IsShown top streams marks shown ms =
    (acts : List Act) × (construction top streams marks ms ≡ Some acts) × Shows top shown acts

shown_by : (top : ℕ) (streams : List Stream) (marks : Marks) (shown : List Stream) (ms : List Move)
    → AllAlong (Serves top streams marks) [] ms → pids_of streams ≡ pids_of shown
    → All (λ (x : Stream). told_of_moves marks x.pid ms ≡ x.events) shown
    → IsShown top streams marks shown ms
shown_by top streams marks shown [] serve pids told = ([], refl, ([], refl, told))
shown_by top streams marks shown (m ∷ ms) serve pids told =
    construction_shows top streams marks shown m ms serve pids told

-- the acts of the construction show the told events
pub settled_is_shown : (top : ℕ) (streams : List Stream) (marks : Marks) → IsStreams streams
    → IsSettled top streams
    → (acts : List Act) × (construction top streams marks (moves streams (order streams))
    ≡ Some acts)
    × Shows top (told_parts marks streams) acts × NoReset acts
settled_is_shown top streams marks sound settled =
    let ok = paired streams settled.accepted in
    let is_order = an_order streams sound.draft.rising ok.once in
    let ms = moves streams (order streams) in
    let told = tells_told_events top streams marks sound settled (order streams) is_order in
    let serve = each_serves top streams marks sound settled (order streams) is_order in
    let shown = shown_by top streams marks (told_parts marks streams) ms serve
    (told_pids marks streams) (tells_only streams marks ms sound told) in
    (shown.0, shown.1, shown.2, no_reset top streams marks ms shown.0 shown.1)
