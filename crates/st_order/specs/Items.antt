-- The items of streams: each event, and each hidden send, which is the unreported send of a
-- reported receive (own profile).
use Rattle.std.specs.Prelude.{ℕ, ◌+◌, max, Bool, true, false, List, [], ◌∷◌, ◌++◌, map, take}
use Rattle.std.specs.Prelude.{Option, if◌then◌else◌}
use Rattle.st_core.specs.declared.types.Pid.{Pid}
use Rattle.st_core.specs.declared.types.Event.{Event}
use Rattle.st_core.specs.Run.{Stream}
use Rattle.st_core.specs.Streams.{events_of}
use Rattle.st_pair.specs.declared.answer.Source.TheVariants as source
use Rattle.st_pair.specs.Places.{event_at, is_stamp}
use Rattle.st_pair.specs.Pairing.{source_of}
use Rattle.st_order.specs.declared.item.Item.{Item}
use Rattle.st_order.specs.declared.item.Item.TheVariants as item

-- the greatest of these numbers, 0 if there are none
abbrev pub greatest : List ℕ → ℕ
greatest [] = 0
greatest (x ∷ xs) = max x (greatest xs)

-- p's height at index i: the greatest count among its events 0 to i
abbrev pub height : List Stream → Pid → ℕ → ℕ
height streams p i = greatest (map (λ e. e.serial.this) (take (i + 1) (events_of streams p)))

-- the event is a receive, and its send is hidden
abbrev pub is_hidden : List Stream → Event → Bool
is_hidden streams e = if is_stamp e then false else elim (source_of streams e) [
  | source.Hidden ↦ true
  | source.Event q j ↦ false
]

-- the items at a place: its event, and before it the event's hidden send, if there is one
abbrev pub items_at : List Stream → Pid → ℕ → Event → List Item
items_at streams p i e =
    if is_hidden streams e then item.Hidden p i ∷ item.Reported p i ∷ [] else item.Reported p i ∷ []

-- the items at the places of these events of p, from index i on
abbrev pub items_from : List Stream → Pid → ℕ → List Event → List Item
items_from streams p i [] = []
items_from streams p i (e ∷ es) = items_at streams p i e ++ items_from streams p (i + 1) es

-- the items of some of all streams
abbrev pub items_among : List Stream → List Stream → List Item
items_among all [] = []
items_among all (s ∷ rest) = items_from all s.pid 0 s.events ++ items_among all rest

-- all items, place by place
abbrev pub items : List Stream → List Item
items streams = items_among streams streams

-- the place of an item in the streams: a hidden send is at its receive's place
abbrev pub item_place : Item → Pid × ℕ
item_place (item.Reported p i) = (p, i)
item_place (item.Hidden p i) = (p, i)

-- the event that an item is about, which for a hidden send is its receive; none if no event is at
-- the item's place
abbrev pub event_of : List Stream → Item → Option Event
event_of streams (item.Reported p i) = event_at streams p i
event_of streams (item.Hidden p i) = event_at streams p i
