-- The rows so far and those of the processes that are left make up all rows.
use Rattle.std.proofs.Common.{◌≡◌, ◌++◌, drop}
use Rattle.st_order.specs.Row.{rows}
use Rattle.st_order.proofs.row.rows.Given as goal

abbrev pub invariant-loop-pid : goal.invariant-loop-pid
invariant-loop-pid l = l.rows.items ++ rows l.streams (drop l.pid-index l.streams)
    ≡ rows l.streams l.streams
