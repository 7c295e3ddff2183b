-- The four reasons against streams, which hold whatever other processes took part.
use Rattle.std.specs.Prelude.{◌≡◌, ◌⊎◌, ℕ, ◌<◌, ◌≤◌, ◌||◌, true, false, List, Some, None}
use Rattle.st_core.specs.declared.types.Pid.{Pid}
use Rattle.st_core.specs.declared.types.Event.{Event}
use Rattle.st_core.specs.Run.{Stream}
use Rattle.st_pair.specs.declared.answer.PairFault.{PairFault}
use Rattle.st_pair.specs.Pairing.{refusal}
use Rattle.st_pair.specs.Laws.{IsEarlier}
use Rattle.st_pair.specs.Places.{event_at, is_stamp}
use Rattle.st_order.specs.Items.{is_hidden}
use Rattle.lack_laws.specs.Needs.{HoldsOfNone, is_late}
use Rattle.lack_laws.specs.Reasons.{HoldsAt, is_too_high}

-- event i of p is a send or print with prev 0, and an earlier event of p is a receive
pub record IsBehindReceive (streams : List Stream) (p : Pid) (i : ℕ) : Type 0 where
  pub event : Event
  pub at : event_at streams p i ≡ Some event
  pub stamps : is_stamp event ≡ true
  pub is_zero : event.serial.prev ≡ 0
  pub index : ℕ
  pub received : Event
  pub received_at : event_at streams p index ≡ Some received
  pub receives : is_stamp received ≡ false
  pub behind : index < i

-- Each event tells of a stamp: a send or print of itself, a receive of the send of its message.
-- Event i of p tells of a stamp with prev 0, and some event tells of a stamp of the same process
-- with a lower count and another prev.
pub record IsZeroBehind (streams : List Stream) (p : Pid) (i : ℕ) : Type 0 where
  pub event : Event
  pub at : event_at streams p i ≡ Some event
  pub is_zero : event.serial.prev ≡ 0
  pub pid : Pid
  pub index : ℕ
  pub first : Event
  pub first_at : event_at streams pid index ≡ Some first
  pub same : first.from ≡ event.from
  pub lower : first.serial.this < event.serial.this
  pub above : 0 < first.serial.prev

-- event i of p is a send, a print or the receive of a hidden send; it has prev 0, and some event
-- tells of a stamp of the same process with a lower count and another prev
pub record IsBehindStamp (streams : List Stream) (p : Pid) (i : ℕ) : Type 0 where
  pub zero : IsZeroBehind streams p i
  pub tells : (is_stamp zero.event || is_hidden streams zero.event) ≡ true

-- event i of p is unfounded if it is behind a receive or a stamp, after which no prev can be 0
abbrev pub IsUnfounded : List Stream → Pid → ℕ → Type 0
IsUnfounded streams p i = IsBehindReceive streams p i ⊎ IsBehindStamp streams p i

-- no reason holds: pairing finds no fault, no stamp is late, no event is unfounded, and each count
-- is at most TOP
pub record HasNoOpenReason (top : ℕ) (streams : List Stream) : Type 0 where
  pub accepted : refusal streams ≡ None
  pub timely : HoldsOfNone is_late streams
  pub founded : (p : Pid) (i : ℕ) → ¬ IsUnfounded streams p i
  pub within : (p : Pid) (i : ℕ) (e : Event) → event_at streams p i ≡ Some e → e.serial.this ≤ top

-- A reason against streams, with its place. Refused: pairing finds a fault. Late: the count of a
-- send or print isn't above all counts of its process before it. Unfounded: the event has prev 0
-- and is behind a receive or a stamp, after which no prev can be 0. TooHigh: the count is above
-- TOP.
pub data OpenReason : Type 0 where
  Refused : PairFault → OpenReason
  Late : Pid → ℕ → OpenReason
  Unfounded : Pid → ℕ → OpenReason
  TooHigh : Pid → ℕ → OpenReason

-- the reason holds of the streams at its place
abbrev pub StandsAgainstOpen : ℕ → List Stream → OpenReason → Type 0
StandsAgainstOpen top streams (Refused f) = refusal streams ≡ Some f
StandsAgainstOpen top streams (Late p i) = HoldsAt is_late streams p i
StandsAgainstOpen top streams (Unfounded p i) = IsUnfounded streams p i
StandsAgainstOpen top streams (TooHigh p i) = HoldsAt (is_too_high top) streams p i

-- the property holds at this place, and at none before it
pub record IsLeastPlace (Holds : Pid → ℕ → Type 0) (p : Pid) (i : ℕ) : Type 0 where
  pub holds : Holds p i
  pub least : (q : Pid) (j : ℕ) → IsEarlier q j p i → ¬ Holds q j
