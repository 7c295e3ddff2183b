-- For the parts alone: the place of an event of which a test holds.
use Rattle.std.specs.Prelude.{ℕ, Bool, List, take, Option, Some, None, if◌then◌else◌}
use Rattle.st_core.specs.declared.types.Pid.{Pid}
use Rattle.st_core.specs.declared.types.Event.{Event}
use Rattle.st_core.specs.Run.{Stream}
use Rattle.st_core.specs.Streams.{events_of}

-- place (p, i), if the test holds of event e there
abbrev pub place_where : (List Event → Event → Bool) → List Event → Pid → ℕ → Event
    → Option (Pid × ℕ)
place_where test es p i e = if test (take i es) e then Some (p, i) else None

abbrev pub flaw_place : (List Event → Event → Bool) → List Stream → Pid → ℕ → Event
    → Option (Pid × ℕ)
flaw_place test streams p i e = place_where test (events_of streams p) p i e
