-- The cursors of the node up to here passed the entry, and no others.
use Rattle.st_log.specs.Entries.{entry_at}
use Rattle.st_runtime.proofs.Passing.{IsPassedUpTo}
use Rattle.st_runtime.proofs.join.walk.pass_node.Given as goal

abbrev pub invariant-loop-at : goal.invariant-loop-at
invariant-loop-at l = IsPassedUpTo (entry_at l.log.entries l.place) l.node l.pids l.first l.at
    l.initial.cursors l.cursors
