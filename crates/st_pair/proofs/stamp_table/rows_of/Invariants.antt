-- The rows so far, and those of what is left, are those of all events.
use Rattle.std.proofs.Common.{◌≡◌, ◌++◌, drop}
use Rattle.st_pair.specs.Tables.{stamp_rows}
use Rattle.st_pair.proofs.stamp_table.rows_of.Given as goal

abbrev pub invariant-loop-i : goal.invariant-loop-i
invariant-loop-i l = l.rows.items ++ stamp_rows l.i (drop l.i l.events) ≡ stamp_rows 0 l.events
