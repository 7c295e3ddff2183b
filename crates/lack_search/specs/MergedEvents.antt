-- For the parts alone: the events of a process with those that are added among them.
use Rattle.std.specs.Prelude.{ℕ, ◌+◌, Bool, true, false, List, [], ◌∷◌, length, if◌then◌else◌}
use Rattle.st_core.specs.declared.types.Event.{Event}
use Rattle.lack_search.specs.declared.merged_events.MergedEvent.{MergedEvent}
use Rattle.lack_search.specs.declared.merged_events.MergedEvents.{MergedEvents}
use Rattle.lack_search.specs.declared.merged_events.Origin.{Origin}
use Rattle.lack_search.specs.declared.merged_events.Origin.TheVariants as origin

-- an event with this origin was reported
abbrev pub is_told : Origin → Bool
is_told origin.Reported = true
is_told origin.Hidden = false
is_told origin.Fed = false
is_told origin.Invented = false

-- the event, if it was reported
abbrev pub told_if : Origin → Event → List Event
told_if from e = if is_told from then e ∷ [] else []

abbrev pub told_in : MergedEvent → List Event
told_in m = told_if m.origin m.event

-- the number of events that may still come
abbrev pub events_left : MergedEvents → ℕ
events_left merged = length merged.reported.now + length merged.hidden.now + length merged.asks.now
