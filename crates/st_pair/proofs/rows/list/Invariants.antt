-- The rows of the processes that were taken are there, in order.
use Rattle.std.proofs.Common.{◌≡◌, ◌++◌, drop}
use Rattle.st_pair.specs.Rows.{listed, listed_from}
use Rattle.st_pair.proofs.rows.list.Given as goal

-- with the rows of the processes left they are all rows
abbrev pub invariant-loop-pid : goal.invariant-loop-pid
invariant-loop-pid l =
    l.rows.items ++ listed_from l.filter l.line (drop l.pid-index l.streams)
    ≡ listed l.filter l.streams
