-- Told events that stay when marked streams change.
use Rattle.std.specs.Prelude.{◌≡◌, List, [], ◌∷◌, if◌then◌else◌}
use Rattle.st_core.specs.declared.types.Event.{Event}
use Rattle.st_plan.specs.Marks.{told_streams, Whole}
use Rattle.lack_needs.specs.Completions.{wholes_with}
use Rattle.lack_acts.specs.declared.marked_streams.MarkedEvent.{MarkedEvent}
use Rattle.lack_acts.specs.declared.marked_streams.MarkedStreams.{MarkedStreams}

-- the told events
abbrev pub told_of : List MarkedEvent → List Event
told_of [] = []
told_of (m ∷ ms) = if m.is_told then m.event ∷ told_of ms else told_of ms

-- the marked streams have the processes of the whole streams, and each process tells the events
-- that it told
abbrev pub TellsAs : List Whole → MarkedStreams → Type 0
TellsAs wholes marked =
    told_streams (wholes_with marked.streams marked.marks.items) ≡ told_streams wholes
