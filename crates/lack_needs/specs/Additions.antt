-- Why a completion adds an event: some other event needs it.
use Rattle.std.specs.Prelude.{◌≡◌, ◌⊎◌, ℕ, ◌+◌, ◌<◌, true, false, List, Some, slice_get}
use Rattle.st_core.specs.declared.types.Event.{Event}
use Rattle.st_core.specs.declared.types.Kind.TheVariants as kind
use Rattle.st_core.specs.declared.types.Pid.{Pid}
use Rattle.st_core.specs.Run.{Stream}
use Rattle.st_pair.specs.Pairing.{is_send}
use Rattle.st_pair.specs.Places.{event_at, is_stamp}
use Rattle.st_plan.specs.Marks.{all_streams, Marked, Whole}
use Rattle.lack_laws.specs.Needs.{marked_of}

-- the receive of a send
abbrev pub receipt_of : Event → Event
receipt_of e = record e { kind = kind.Receive }

-- some event of the streams is the receive of the send e
pub record IsReceived (streams : List Stream) (e : Event) : Type 0 where
  pub pid : Pid
  pub index : ℕ
  pub at : event_at streams pid index ≡ Some (receipt_of e)

-- a send or print comes right after the receive e, at index i, and has its count as prev
pub record IsFollowed (ms : List Marked) (i : ℕ) (e : Event) : Type 0 where
  pub next : Marked
  pub at : slice_get ms (i + 1) ≡ Some next
  pub stamps : is_stamp next.event ≡ true
  pub prev : next.event.serial.prev ≡ e.serial.this

-- no event after index i is told
abbrev pub IsBehindTold : List Marked → ℕ → Type 0
IsBehindTold ms i = (k : ℕ) (m : Marked) → i < k → slice_get ms k ≡ Some m → m.told ≡ false

-- An added event at index i is needed if it is a send that is received, or a receive that gives
-- its count to the event right after it, or after which all events are added too. An added print
-- never is.
pub data IsNeeded (streams : List Stream) (ms : List Marked) (i : ℕ) (e : Event) : Type 0 where
  Sends : is_send e ≡ true → IsReceived streams e → IsNeeded streams ms i e
  Receives : is_stamp e ≡ false → IsFollowed ms i e ⊎ IsBehindTold ms i → IsNeeded streams ms i e

-- each added event of the completion is needed
abbrev pub AreAdditionsNeeded : List Whole → Type 0
AreAdditionsNeeded wholes = (p : Pid) (i : ℕ) (m : Marked)
    → slice_get (marked_of wholes p) i ≡ Some m → m.told ≡ false
    → IsNeeded (all_streams wholes) (marked_of wholes p) i m.event
