-- For the parts alone: the counts of streams in a row.
use Rattle.std.specs.Prelude.{ℕ, List, [], ◌∷◌, ◌++◌, map}
use Rattle.st_core.specs.declared.types.Pid.{Pid}
use Rattle.st_core.specs.declared.types.Event.{Event}
use Rattle.st_core.specs.Run.{Stream}
use Rattle.lack_laws.specs.Renumbering.{event_with, rank}

-- the prev and the count of each event
abbrev pub counts_in : List Event → List ℕ
counts_in [] = []
counts_in (e ∷ es) = e.serial.prev ∷ e.serial.this ∷ counts_in es

-- the prev and the count of each event of the streams
abbrev pub all_counts : List Stream → List ℕ
all_counts [] = []
all_counts (x ∷ rest) = counts_in x.events ++ all_counts rest

-- the process p with these events, each count replaced by its rank
abbrev pub ranked_stream : List ℕ → Pid → List Event → Stream
ranked_stream counts p es = record { pid = p; events = map (event_with (rank counts)) es }
