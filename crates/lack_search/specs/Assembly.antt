-- For the parts alone, but for `TellsStreams`: whole streams that are put together, and what they
-- tell.
use Rattle.std.specs.Prelude.{◌≡◌, List, [], ◌∷◌, ◌++◌, map, length, Bool}
use Rattle.st_core.specs.declared.types.Pid.{Pid}
use Rattle.st_core.specs.declared.types.Event.{Event}
use Rattle.st_core.specs.Run.{Stream}
use Rattle.st_core.specs.Streams.{events_of, ComesLast}
use Rattle.st_plan.specs.Marks.{told_events, told_streams}
use Rattle.lack_laws.specs.Silent.{with_silent}
use Rattle.lack_needs.specs.Completions.{marked_with, wholes_with}
use Rattle.lack_search.specs.declared.assembly.Assembly.{Assembly}
use Rattle.lack_search.specs.declared.candidate.Candidate.{Candidate}

-- The candidate tells the streams: it keeps their processes and events in order, and what it adds
-- isn't told, nor any event of its unlisted processes.
abbrev pub TellsStreams : List Stream → Candidate → Type 0
TellsStreams streams candidate = told_streams (wholes_with candidate.streams candidate.told.items)
    ≡ with_silent streams candidate.unlisted.items

-- Process p was begun last, after the streams `before`. Each of its events has a mark, and its
-- told events are these.
pub record IsUnderWay (before : List Stream) (p : Pid) (told : List Event)
    (assembly : Assembly) : Type 0 where
  pub last : ComesLast before p
  pub events : List Event
  pub draft : assembly.draft ≡ before ++ record { pid = p; events = events } ∷ []
  pub even : length assembly.marks.items ≡ length events
  pub tells : told_events (marked_with events assembly.marks.items) ≡ told

-- process p, which was begun last, tells these further events
abbrev pub AddsTold : Pid → List Event → Assembly → Assembly → Type 0
AddsTold p more old new = (before : List Stream) (told : List Event)
    → IsUnderWay before p told old → IsUnderWay before p (told ++ more) new

-- process p was added after the old streams, and its told events are those of the streams
pub record IsAdded (streams : List Stream) (p : Pid) (old new : List Stream)
    (marks : List Bool) : Type 0 where
  pub events : List Event
  pub draft : new ≡ old ++ record { pid = p; events = events } ∷ []
  pub told : told_events (marked_with events marks) ≡ events_of streams p

-- the processes, each with its events in the streams
abbrev pub streams_of_pids : List Stream → List Pid → List Stream
streams_of_pids streams pids = map (λ p. record { pid = p; events = events_of streams p }) pids
