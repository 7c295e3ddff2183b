-- Definitions for the law of turns, by which the order lists a process's events one after another.
use Rattle.std.specs.Prelude.{◌≡◌, ℕ, ◌<◌, Bool, true, false, List, map, Some}
use Rattle.std.specs.List.{range_with_len}
use Rattle.st_core.specs.declared.types.Pid.{Pid}
use Rattle.st_core.specs.declared.types.Event.{Event}
use Rattle.st_core.specs.Pid.{pid_eq}
use Rattle.st_core.specs.Run.{Stream}
use Rattle.st_pair.specs.Places.{event_at, is_stamp}
use Rattle.st_order.specs.declared.item.Item.{Item}
use Rattle.st_order.specs.declared.item.Item.TheVariants as item

-- the item is an event of p
abbrev pub is_event_of : Pid → Item → Bool
is_event_of p (item.Reported q i) = pid_eq q p
is_event_of p (item.Hidden q i) = false

-- n events of p, from index i on
abbrev pub in_turn : Pid → ℕ → ℕ → List Item
in_turn p i n = map (λ k. item.Reported p k) (range_with_len i n)

-- each send and print of p has a greater count than every event of p before it
abbrev pub StampsLead : List Stream → Pid → Type 0
StampsLead streams p = (j i : ℕ) (d e : Event) → j < i → event_at streams p j ≡ Some d
    → event_at streams p i ≡ Some e
    → is_stamp e ≡ true → d.serial.this < e.serial.this
