-- All that waits in the buffer is flushed.
use Rattle.st_text.specs.Spelling.{ended_line}
use Rattle.st_text.proofs.Spellings.{line_some}
use Rattle.st_text.proofs.Puts.{finishes}
use Rattle.st_text.proofs.lines.send_line.Goals as goal

pub returns : goal.returns
returns g c =
    let words = g.L.TextLine.words c.args.line in
    finishes g.S.ByteSink.puts g.S.ByteSink.failed (ended_line words) _ _ c.flush.result
    (line_some words)
    (rw c.new-buffer.ensures at c.in_ok-write_line.ensures) c.flush.ensures.goes
    c.flush.ensures.empty
