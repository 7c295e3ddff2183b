-- No hop so far rests on the premise.
use Rattle.std.proofs.Common.{◌≡◌, false, take}
use Rattle.std.specs.List.{list_any}
use Rattle.seqtool_commands.specs.Why.{rests_on}
use Rattle.seqtool_commands.proofs.premise_lines.is_used.Given as goal

abbrev pub invariant-loop-node : goal.invariant-loop-node
invariant-loop-node l =
    list_any (rests_on l.trace l.premise) (take l.node-index l.nodes) ≡ false
