-- A flush writes the bytes that wait last.
use Rattle.st_text.specs.Text.{parts, spelling}
use Rattle.st_text.proofs.Puts.{finishes}
use Rattle.st_text.proofs.Spellings.{text_some}
use Rattle.st_text.proofs.writer.write_parts.Goals as goal

pub returns : goal.returns
returns g c =
    let text = spelling (parts c.args.streams.now c.args.acts) in
    finishes g.S.ByteSink.puts g.S.ByteSink.failed text _ _ c.flush.result
    (text_some (parts c.args.streams.now c.args.acts))
    (rw c.new-buffer.ensures at c.in_ok-write_lines.ensures)
    c.flush.ensures.goes c.flush.ensures.empty
