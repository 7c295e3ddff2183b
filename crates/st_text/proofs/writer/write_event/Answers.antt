-- A flush writes the bytes that wait last.
use Rattle.st_text.specs.Spelling as spelled
use Rattle.st_text.proofs.Puts.{finishes, goes_buffer}
use Rattle.st_text.proofs.Spellings.{event_some}
use Rattle.st_text.proofs.writer.write_event.Goals as goal

pub returns : goal.returns
returns g c =
    finishes g.S.ByteSink.puts g.S.ByteSink.failed (spelled.event c.args.event.now) _ _
    c.flush.result
    (event_some c.args.event.now)
    (goes_buffer g.S.ByteSink.puts g.S.ByteSink.failed
    (rw c.new-buffer.ensures at c.put_event.ensures.items))
    c.flush.ensures.goes c.flush.ensures.empty
