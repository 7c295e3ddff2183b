-- The acts so far pass, and the tables are theirs.
use Rattle.std.proofs.Common.{map, take}
use Rattle.node_check.specs.Progress.{HasPassedOnNode}
use Rattle.node_check.proofs.checking.check_node.Given as goal

abbrev pub invariant-loop-number : goal.invariant-loop-number
invariant-loop-number g l =
    HasPassedOnNode l.streams (take l.number (map g.A.ToNodeAct.on_node l.acts)) l.progress
