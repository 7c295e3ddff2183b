-- The lines of the pairs so far were written, or wait in the buffer.
use Rattle.std.proofs.Common.{take}
use Rattle.std.specs.List.{flat_map}
use Rattle.st_commands.specs.Output.{pair_line}
use Rattle.st_text.specs.Writing.{Goes}
use Rattle.st_commands.proofs.lines.write_pairs.Given as goal

abbrev pub invariant-loop-pair : goal.invariant-loop-pair
invariant-loop-pair g l =
    Goes g.W.ByteSink.puts g.W.ByteSink.failed (flat_map pair_line
    (take l.pair-index l.pairs)) l.initial.writer
    l.writer l.initial.buffer.items l.buffer.items
