-- The chain of a process and a label: the events that the process reported under it.
use Rattle.std.specs.Prelude.{ℕ, ◌+◌, ◌==◌, List, [], ◌∷◌, drop, if◌then◌else◌}
use Rattle.st_core.specs.declared.types.Pid.{Pid}
use Rattle.st_core.specs.declared.types.Label.{Label}
use Rattle.st_core.specs.declared.types.Event.{Event}
use Rattle.st_core.specs.Run.{Stream}
use Rattle.st_core.specs.Streams.{events_of}

-- the indexes of the events that have the label, if the first of these events is at index i
abbrev pub labelled_indexes : Label → ℕ → List Event → List ℕ
labelled_indexes label i [] = []
labelled_indexes label i (e ∷ es) =
    if e.label.0 == label.0 then i
    ∷ labelled_indexes label (i + 1) es else labelled_indexes label (i + 1) es

-- the indexes of p's events with the label, rising
abbrev pub chain : List Stream → Pid → Label → List ℕ
chain streams p label = labelled_indexes label 0 (events_of streams p)

-- the indexes of the events with the label from index i on
abbrev pub indexes_from : Label → ℕ → List Event → List ℕ
indexes_from label i events = labelled_indexes label i (drop i events)
