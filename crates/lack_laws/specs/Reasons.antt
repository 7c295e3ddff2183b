-- Tests that hold of an event given those of its process before it, and counts that are too high.
use Rattle.std.specs.Prelude.{◌≡◌, ℕ, Bool, true, nat_lt, List, Some, take}
use Rattle.st_core.specs.declared.types.Pid.{Pid}
use Rattle.st_core.specs.declared.types.Event.{Event}
use Rattle.st_core.specs.Run.{Stream}
use Rattle.st_core.specs.Streams.{events_of}
use Rattle.st_pair.specs.Places.{event_at}

-- the test holds of event i of p, given the events of p before it
pub record HoldsAt (test : List Event → Event → Bool) (streams : List Stream) (p : Pid)
    (i : ℕ) : Type 0 where
  pub event : Event
  pub at : event_at streams p i ≡ Some event
  pub holds : test (take i (events_of streams p)) event ≡ true

-- the event's count is above TOP, so no clock can have it
abbrev pub is_too_high : ℕ → List Event → Event → Bool
is_too_high top es e = nat_lt top e.serial.this
