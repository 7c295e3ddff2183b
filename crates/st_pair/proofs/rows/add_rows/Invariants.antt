-- The rows of the events that were taken are there, in order.
use Rattle.std.proofs.Common.{◌≡◌, ◌++◌, drop}
use Rattle.st_pair.specs.Rows.{listed_at}
use Rattle.st_pair.proofs.rows.add_rows.Given as goal

-- with the rows of the events left they are all rows
abbrev pub invariant-loop-event : goal.invariant-loop-event
invariant-loop-event l =
    l.rows.items ++ listed_at l.fn.filter l.fn.pid l.index l.line (drop l.event-index l.fn.events)
    ≡ l.fn.rows.items ++ listed_at l.fn.filter l.fn.pid 0 l.fn.first l.fn.events
