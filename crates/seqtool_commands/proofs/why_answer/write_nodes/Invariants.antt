-- The lines of the nodes so far were written, or wait.
use Rattle.std.proofs.Common.{take}
use Rattle.std.specs.List.{flat_map}
use Rattle.st_text.specs.Writing.{Goes}
use Rattle.seqtool_commands.specs.Why.{node_line}
use Rattle.seqtool_commands.proofs.why_answer.write_nodes.Given as goal

abbrev pub invariant-loop-node : goal.invariant-loop-node
invariant-loop-node g l =
    Goes g.W.ByteSink.puts g.W.ByteSink.failed
    (flat_map (node_line l.trace l.question) (take l.node-index l.nodes)) l.initial.writer l.writer
    l.initial.buffer.items l.buffer.items
