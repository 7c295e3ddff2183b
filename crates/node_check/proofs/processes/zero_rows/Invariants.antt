-- Each row so far is that of a process at the start.
use Rattle.std.proofs.Common.{◌≡◌, replicate}
use Rattle.node_check.specs.Kept.{zero_row}
use Rattle.node_check.proofs.processes.zero_rows.Given as goal

abbrev pub invariant-loop : goal.invariant-loop
invariant-loop l = l.rows.items ≡ replicate l.counter zero_row
