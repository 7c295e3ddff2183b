-- The noted counts and those of the remaining events are all counts.
use Rattle.std.proofs.Common.{◌≡◌, ◌++◌, drop}
use Rattle.lack_needs.specs.Counts.{counts_in}
use Rattle.lack_needs.proofs.ranks.note_counts.Given as goal

abbrev pub invariant-loop-event : goal.invariant-loop-event
invariant-loop-event l = l.counts.items ++ counts_in (drop l.event-index l.fn.events)
    ≡ l.fn.counts.items ++ counts_in l.fn.events
