-- The lines of the events so far were written, or wait.
use Rattle.st_text.specs.Writing.{Goes}
use Rattle.seqtool_commands.specs.Lines.{added_at, up_to}
use Rattle.seqtool_commands.proofs.completion_lines.write_added_of.Given as goal

abbrev pub invariant-loop-index : goal.invariant-loop-index
invariant-loop-index g l =
    Goes g.W.ByteSink.puts g.W.ByteSink.failed (up_to (added_at l.completion.wholes l.pid) l.index)
    l.initial.writer l.writer
    l.initial.buffer.items l.buffer.items
