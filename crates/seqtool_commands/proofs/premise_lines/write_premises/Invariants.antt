-- The lines of the premises so far were written, or wait.
use Rattle.std.proofs.Common.{take}
use Rattle.std.specs.List.{flat_map}
use Rattle.st_text.specs.Writing.{Goes}
use Rattle.seqtool_commands.specs.Why.{premise_line}
use Rattle.seqtool_commands.proofs.premise_lines.write_premises.Given as goal

abbrev pub invariant-loop-premise : goal.invariant-loop-premise
invariant-loop-premise g l =
    Goes g.W.ByteSink.puts g.W.ByteSink.failed
    (flat_map (premise_line l.trace l.nodes) (take l.premise-index l.premises))
    l.initial.writer l.writer
    l.initial.buffer.items l.buffer.items
