-- The events merged so far and the remaining ones tell what the process tells.
use Rattle.std.proofs.Common.{◌≡◌, ◌++◌, drop}
use Rattle.st_plan.specs.Marks.{told_events}
use Rattle.lack_needs.specs.Completions.{marked_with}
use Rattle.lack_acts.specs.Told.{told_of}
use Rattle.lack_acts.proofs.insertion.merged.Given as goal

abbrev pub invariant-loop-index : goal.invariant-loop-index
invariant-loop-index l = told_of l.whole.items
    ++ told_events (drop l.index (marked_with l.events l.marks))
    ≡ told_events (marked_with l.events l.marks)
