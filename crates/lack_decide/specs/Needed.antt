-- For the parts alone: needed additions, by all events of a process and their marks.
use Rattle.std.specs.Prelude.{◌≡◌, ◌⊎◌, ℕ, ◌+◌, ◌<◌, Bool, true, false, List, get_or, slice_get}
use Rattle.std.specs.Prelude.{Some}
use Rattle.st_core.specs.declared.types.Event.{Event}
use Rattle.st_core.specs.Run.{Stream}
use Rattle.st_pair.specs.Pairing.{is_send}
use Rattle.st_pair.specs.Places.{is_stamp}
use Rattle.lack_needs.specs.Additions.{IsReceived}

-- a send or print comes right after index i and has the count as its prev
pub record IsNextOf (es : List Event) (i this : ℕ) : Type 0 where
  pub event : Event
  pub at : slice_get es (i + 1) ≡ Some event
  pub stamps : is_stamp event ≡ true
  pub prev : event.serial.prev ≡ this

-- no mark after index i is set
abbrev pub IsUnmarkedBehind : List Bool → ℕ → Type 0
IsUnmarkedBehind marks i = (k : ℕ) → i < k → get_or marks k false ≡ false

-- the unmarked event i is needed: it is a send that is received, or a receive that gives its count
-- to the next event or has no marked event after it
pub data IsNeededAmong (streams : List Stream) (es : List Event) (marks : List Bool) (i : ℕ)
    (e : Event) : Type 0 where
  AsSend : is_send e ≡ true → IsReceived streams e → IsNeededAmong streams es marks i e
  AsReceive : is_stamp e ≡ false → IsNextOf es i e.serial.this ⊎ IsUnmarkedBehind marks i
      → IsNeededAmong streams es marks i e

-- each unmarked event is needed
abbrev pub AreNeeded : List Stream → List Event → List Bool → Type 0
AreNeeded streams es marks = (i : ℕ) (e : Event) → slice_get es i ≡ Some e
    → get_or marks i false ≡ false → IsNeededAmong streams es marks i e
