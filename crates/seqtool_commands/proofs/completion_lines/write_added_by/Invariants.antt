-- The lines of the processes so far were written, or wait.
use Rattle.std.proofs.Common.{take}
use Rattle.std.specs.List.{flat_map}
use Rattle.st_text.specs.Writing.{Goes}
use Rattle.seqtool_commands.specs.Lines.{added_of}
use Rattle.seqtool_commands.proofs.completion_lines.write_added_by.Given as goal

abbrev pub invariant-loop-pid : goal.invariant-loop-pid
invariant-loop-pid g l =
    Goes g.W.ByteSink.puts g.W.ByteSink.failed
    (flat_map (added_of l.completion.wholes) (take l.pid-index l.pids)) l.initial.writer l.writer
    l.initial.buffer.items l.buffer.items
