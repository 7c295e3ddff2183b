-- A draft keeps its streams in two lists: the pids, and the events of each process. Public
-- contracts speak only of the list of streams.
use Rattle.std.specs.Prelude.{◌≡◌, ℕ, Bool, not, List, [], ◌∷◌, length, position, Option, Some}
use Rattle.std.specs.Prelude.{None}
use Rattle.st_core.specs.declared.types.Pid.{Pid}
use Rattle.st_core.specs.declared.types.Event.{Event}
use Rattle.st_core.specs.Pid.{IsRising}
use Rattle.st_core.specs.Run.{Stream}
use Rattle.st_core.specs.Streams.{AreOwn, total_of}

-- the streams: each pid with the events at its place
abbrev pub collected : List Pid → List (List Event) → List Stream
collected [] lists = []
collected (p ∷ ps) [] = []
collected (p ∷ ps) (events ∷ lists) = record { pid = p; events = events } ∷ collected ps lists

-- the two lists are a draft's: as many lists of events as pids, which rise; each event its
-- process's own; and `total` the number of all events
pub record IsCollected (pids : List Pid) (lists : List (List Event)) (total : ℕ) : Type 0 where
  pub even : length lists ≡ length pids
  pub rising : IsRising pids
  pub own : AreOwn (collected pids lists)
  pub counted : total ≡ total_of (collected pids lists)

-- the place of the first event that fails the test: its process, and its index there
abbrev pub first_failing : (Event → Bool) → List Pid → List (List Event) → Option (Pid × ℕ)
first_failing test [] lists = None
first_failing test (p ∷ ps) [] = None
first_failing test (p ∷ ps) (events ∷ lists) = elim (position (λ e. not (test e)) events) [
  | None ↦ first_failing test ps lists
  | Some i ↦ Some (p, i)
]
