-- Each marked event taken so far was the next of the stream.
use Rattle.std.proofs.Common.{◌≡◌, drop}
use Rattle.st_plan.specs.Marks.{told_events}
use Rattle.lack_needs.specs.Completions.{marked_with}
use Rattle.lack_decide.proofs.judge.tells_events.Given as goal

-- so the marked events are the stream if the remaining ones are its rest
abbrev pub invariant-loop-i : goal.invariant-loop-i
invariant-loop-i l = told_events (drop l.i (marked_with l.all l.marks)) ≡ l.rest
    → told_events (marked_with l.all l.marks) ≡ l.fn.events
