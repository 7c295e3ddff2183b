-- Each mark so far is that of a node at the start.
use Rattle.std.proofs.Common.{◌≡◌, replicate}
use Rattle.node_check.specs.Kept.{no_mark}
use Rattle.node_check.proofs.processes.zero_marks.Given as goal

abbrev pub invariant-loop : goal.invariant-loop
invariant-loop l = l.marks.items ≡ replicate l.counter no_mark
