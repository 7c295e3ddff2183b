-- All items before the loop's index have the label, so the count goes on from the index.
use Rattle.std.proofs.Common.{◌≡◌, ◌+◌, drop}
use Rattle.st_order.specs.Groups.{leading_with}
use Rattle.st_order.proofs.labels.leading_with.Given as goal

abbrev pub invariant-loop-i : goal.invariant-loop-i
invariant-loop-i l = leading_with l.label l.labelled
    ≡ l.i + leading_with l.label (drop l.i l.labelled)
