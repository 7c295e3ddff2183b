-- No process so far has an event on the line.
use Rattle.seqtool_commands.proofs.LineFirsts.{NoneBefore}
use Rattle.seqtool_commands.proofs.line_numbers.LineNumbers.place.Given as goal

abbrev pub invariant-loop-pid : goal.invariant-loop-pid
invariant-loop-pid l = NoneBefore l.self l.line l.pid-index
