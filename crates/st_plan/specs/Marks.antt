-- Streams of which some events are told: all that each process did, and which part was reported
-- (own profile).
use Rattle.std.specs.Prelude.{ℕ, ◌+◌, Bool, true, false, List, [], ◌∷◌, map, find, slice_get, Some}
use Rattle.std.specs.Prelude.{None, if◌then◌else◌}
use Rattle.std.specs.Option.{option_map_or}
use Rattle.st_core.specs.declared.types.Pid.{Pid}
use Rattle.st_core.specs.declared.types.Event.{Event}
use Rattle.st_core.specs.Pid.{pid_eq}
use Rattle.st_core.specs.Run.{Stream}

-- an event, and whether it was told
pub record Marked : Type 0 where
  pub event : Event
  pub told : Bool

-- a process with all its events
pub record Whole : Type 0 where
  pub pid : Pid
  pub marked : List Marked

-- the streams of all events
abbrev pub all_streams : List Whole → List Stream
all_streams wholes = map (λ w. record { pid = w.pid; events = map (λ m. m.event) w.marked }) wholes

-- the told events among these
abbrev pub told_events : List Marked → List Event
told_events [] = []
told_events (m ∷ ms) = if m.told then m.event ∷ told_events ms else told_events ms

-- the streams of the told events alone; a process without any stays
abbrev pub told_streams : List Whole → List Stream
told_streams wholes = map (λ w. record { pid = w.pid; events = told_events w.marked }) wholes

-- Marks by places, for streams of any kind: whether event i of p is told.
abbrev pub Marks : Type 0
Marks = Pid → ℕ → Bool

-- marks that tell each event
abbrev pub all_told : Marks
all_told p i = true

-- the marks of whole streams
abbrev pub marks_of : List Whole → Marks
marks_of wholes p i = elim (find (λ w. pid_eq w.pid p) wholes) [
  | None ↦ false
  | Some w ↦ option_map_or (λ m. m.told) (slice_get w.marked i) false
]

-- the told events among these; the first event has index i
abbrev pub told_events_from : (ℕ → Bool) → ℕ → List Event → List Event
told_events_from told i [] = []
told_events_from told i (e ∷ es) =
    if told i then e ∷ told_events_from told (i + 1) es else told_events_from told (i + 1) es

-- the told events of each stream
abbrev pub told_parts : Marks → List Stream → List Stream
told_parts marks streams =
    map (λ s. record { pid = s.pid; events = told_events_from (marks s.pid) 0 s.events }) streams
