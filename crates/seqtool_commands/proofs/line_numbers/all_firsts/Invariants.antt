-- The first lines so far and those that are left are all, and the last line is that of the first
-- act.
use Rattle.seqtool_commands.proofs.LineFirsts.{AreSoFar}
use Rattle.seqtool_commands.proofs.line_numbers.all_firsts.Given as goal

abbrev pub invariant-loop-pid : goal.invariant-loop-pid
invariant-loop-pid l = AreSoFar l.streams l.firsts.items l.first l.pid-index
