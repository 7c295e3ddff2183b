-- Late stamps and needs, which each process's events tell, and the marked events of a process.
use Rattle.std.specs.Prelude.{[], ◌≡◌, ℕ, ◌==◌, ◌&&◌, Bool, false, not, nat_lt, List}
use Rattle.std.specs.Prelude.{take, find, Some, None}
use Rattle.st_core.specs.declared.types.Pid.{Pid}
use Rattle.st_core.specs.declared.types.Event.{Event}
use Rattle.st_core.specs.Pid.{pid_eq}
use Rattle.st_core.specs.Laws.{greatest_count, prev_after}
use Rattle.st_core.specs.Run.{Stream}
use Rattle.st_core.specs.Streams.{events_of}
use Rattle.st_pair.specs.Places.{event_at, is_stamp}
use Rattle.st_plan.specs.Marks.{Marked, Whole}

-- a send or print is late if its count isn't above all counts of its process before it
abbrev pub is_late : List Event → Event → Bool
is_late es e = is_stamp e && not (nat_lt (greatest_count es) e.serial.this)

-- a send or print is a need if its prev is below the greatest count of its process before it and
-- isn't what the events before it leave: a receive of that count is missing
abbrev pub is_need : List Event → Event → Bool
is_need es e =
    is_stamp e && (not (e.serial.prev == prev_after es) && nat_lt e.serial.prev (greatest_count es))

-- the test holds of no event, given the events of its process before it
abbrev pub HoldsOfNone : (List Event → Event → Bool) → List Stream → Type 0
HoldsOfNone test streams = (p : Pid) (i : ℕ) (e : Event) → event_at streams p i ≡ Some e
    → test (take i (events_of streams p)) e ≡ false

-- all events of p with their marks; none if p isn't there
abbrev pub marked_of : List Whole → Pid → List Marked
marked_of wholes p = elim (find (λ w. pid_eq w.pid p) wholes) [ None ↦ [] | Some w ↦ w.marked ]
