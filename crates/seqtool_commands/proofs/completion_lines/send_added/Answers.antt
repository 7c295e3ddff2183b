-- The flush writes all that waits in the buffer, and the parts are the text.
use Rattle.seqtool_commands.specs.Complete.{added_text}
use Rattle.seqtool_commands.specs.Lines.{added_parts}
use Rattle.seqtool_commands.proofs.Completions.{added_same, added_some, fails_as, finishes_as}
use Rattle.seqtool_commands.proofs.completion_lines.send_added.Goals as goal

pub returns-in_err-write_added : goal.returns-in_err-write_added
returns-in_err-write_added g c =
    let done = c.args.completion.now in
    fails_as g.W.ByteSink.puts g.W.ByteSink.failed (added_parts done) (added_text done)
    (added_same done) _
    c.from_residual.ensures.0 (rw c.new-buffer.ensures at c.in_err-write_added.ensures)

pub returns : goal.returns
returns g c =
    let done = c.args.completion.now in
    finishes_as g.W.ByteSink.puts g.W.ByteSink.failed (added_parts done) (added_text done)
    (added_same done)
    _ _ c.flush.result (added_some done)
    (rw c.new-buffer.ensures at c.in_ok-write_added.ensures) c.flush.ensures.goes
    c.flush.ensures.empty
