-- The flush writes all that waits in the buffer, and the parts are the text.
use Rattle.seqtool_commands.specs.Complete.{never_text}
use Rattle.seqtool_commands.specs.Lines.{never_parts}
use Rattle.seqtool_commands.proofs.Completions.{fails_as, finishes_as, never_same, never_some}
use Rattle.seqtool_commands.proofs.completion_lines.send_never.Goals as goal

pub returns-in_err-write_never : goal.returns-in_err-write_never
returns-in_err-write_never g c =
    let xs = c.args.streams.now in
    let p = c.args.pid in
    let i = c.args.index in
    let reason = c.args.never in
    fails_as g.W.ByteSink.puts g.W.ByteSink.failed (never_parts xs p i reason)
    (never_text xs p i reason)
    (never_same xs p i reason) _
    c.from_residual.ensures.0 (rw c.new-buffer.ensures at c.in_err-write_never.ensures)

pub returns : goal.returns
returns g c =
    let xs = c.args.streams.now in
    let p = c.args.pid in
    let i = c.args.index in
    let reason = c.args.never in
    finishes_as g.W.ByteSink.puts g.W.ByteSink.failed (never_parts xs p i reason)
    (never_text xs p i reason)
    (never_same xs p i reason) _ _ c.flush.result (never_some xs p i reason)
    (rw c.new-buffer.ensures at c.in_ok-write_never.ensures) c.flush.ensures.goes
    c.flush.ensures.empty
