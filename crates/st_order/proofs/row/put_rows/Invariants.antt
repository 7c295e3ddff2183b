-- The rows so far and those of the events that are left make up the rows before the call and those
-- of all events.
use Rattle.std.proofs.Common.{◌≡◌, ◌++◌, drop}
use Rattle.st_order.specs.Row.{rows_from}
use Rattle.st_order.proofs.row.put_rows.Given as goal

abbrev pub invariant-loop-i : goal.invariant-loop-i
invariant-loop-i l = l.rows.items ++ rows_from l.streams l.pid l.i l.height (drop l.i l.events)
    ≡ l.initial.rows.items ++ rows_from l.streams l.pid 0 0 l.events
