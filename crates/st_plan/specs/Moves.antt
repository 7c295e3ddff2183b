-- The items of an order as moves of counts: the clock and the last count of each process between
-- them (own profile). `earlier` is always the list of the moves before a move, the nearest first.
use Rattle.std.specs.Prelude.{ℕ, ◌+◌, ◌-◌, max, Bool, false, not, List, [], ◌∷◌, reverse, None}
use Rattle.std.specs.Prelude.{Some, if◌then◌else◌}
use Rattle.st_core.specs.declared.types.Pid.{Pid}
use Rattle.st_core.specs.declared.types.Event.{Event}
use Rattle.st_core.specs.Pid.{pid_eq}
use Rattle.st_core.specs.Run.{Stream}
use Rattle.st_pair.specs.Places.{is_stamp}
use Rattle.st_order.specs.declared.item.Item.{Item}
use Rattle.st_order.specs.declared.item.Item.TheVariants as item
use Rattle.st_order.specs.Items.{event_of}

-- an item, its process and its event. A hidden send belongs to its sender, and has the label and
-- the serial of its receive
pub record Move : Type 0 where
  pub item : Item
  pub who : Pid
  pub event : Event

abbrev pub move_by : Item → Event → Move
move_by (item.Reported p i) e = record { item = item.Reported p i; who = p; event = e }
move_by (item.Hidden p i) e = record { item = item.Hidden p i; who = e.from; event = e }

-- the moves of items, in their order
abbrev pub moves : List Stream → List Item → List Move
moves streams [] = []
moves streams (x ∷ xs) = elim (event_of streams x) [
  | None ↦ moves streams xs
  | Some e ↦ move_by x e ∷ moves streams xs
]

-- the moves of these items, the nearest first
abbrev pub earlier_of : List Stream → List Item → List Move
earlier_of streams xs = reverse (moves streams xs)

-- the move is a reported receive
abbrev pub is_taking : Move → Bool
is_taking m = elim m.item [ item.Reported p i ↦ not (is_stamp m.event) | item.Hidden p i ↦ false ]

-- q's clock after these moves: the greatest count among its own
abbrev pub clock : Pid → List Move → ℕ
clock q [] = 0
clock q (m ∷ earlier) =
    if pid_eq m.who q then max (clock q earlier) m.event.serial.this else clock q earlier

-- q's last count after these moves: its nearest move's this if that is a receive, else its prev
abbrev pub last : Pid → List Move → ℕ
last q [] = 0
last q (m ∷ earlier) =
    if pid_eq m.who q then (if is_taking m then m.event.serial.this else m.event.serial.prev)
    else last q earlier

-- how many counts are missing before the move's own
abbrev pub skip : List Move → Move → ℕ
skip earlier m = if is_taking m then 0 else m.event.serial.this - 1 - clock m.who earlier

-- how many counts are missing before these moves in all
abbrev pub skips : List Move → ℕ
skips [] = 0
skips (m ∷ earlier) = skip earlier m + skips earlier
