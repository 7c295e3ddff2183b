-- The auditor's own reasons against an item of the order: it needs a receive that wasn't reported,
-- or too many stamps that weren't (own profile).
use Rattle.std.specs.Prelude.{◌≡◌, ℕ, ◌==◌, ◌&&◌, ◌||◌, nat_lt, Bool, true, not, List, ◌∷◌, ◌++◌}
use Rattle.std.specs.Prelude.{reverse}
use Rattle.st_core.specs.declared.types.Pid.{Pid}
use Rattle.st_core.specs.Run.{Stream}
use Rattle.st_order.specs.declared.item.Item.{Item}
use Rattle.st_order.specs.Items.{item_place}
use Rattle.st_order.specs.Order.{IsOrder}
use Rattle.st_plan.specs.Moves.{Move, moves, is_taking, clock, last, skip, skips}

-- the most counts that may be missing before one item, and before all items together
abbrev pub most_skipped : ℕ
most_skipped = 1000

abbrev pub most_skipped_in_all : ℕ
most_skipped_in_all = 1000000

-- the move is a stamp whose prev is below the clock, and isn't the last count
abbrev pub uncaused : List Move → Move → Bool
uncaused earlier m = not (is_taking m) &&
    (not (m.event.serial.prev == last m.who earlier)
    && nat_lt m.event.serial.prev (clock m.who earlier))

-- the move is a stamp before which too many counts are missing, or too many together with those
-- before earlier moves
abbrev pub too_wide : List Move → Move → Bool
too_wide earlier m = not (is_taking m) &&
    (nat_lt most_skipped (skip earlier m) || nat_lt most_skipped_in_all (skips (m ∷ earlier)))

-- the order has a move at place (p, i) of which the test holds
pub record HoldsOfMoveAt (test : List Move → Move → Bool) (streams : List Stream) (p : Pid)
    (i : ℕ) : Type 0 where
  pub order : List Item
  pub earlier : List Move
  pub move : Move
  pub later : List Move
  pub is_order : IsOrder streams order
  pub split : moves streams order ≡ reverse earlier ++ move ∷ later
  pub place : item_place move.item ≡ (p, i)
  pub holds : test earlier move ≡ true
