-- All that waits in the buffer is flushed.
use Rattle.st_check.specs.Answers.{verdict_of}
use Rattle.st_commands.specs.Output.{verdict_text}
use Rattle.st_text.proofs.ForCallers.{finishes}
use Rattle.st_commands.proofs.Texts.{verdict_some}
use Rattle.st_commands.proofs.lines.send_verdict.Goals as goal

pub returns : goal.returns
returns g c =
    finishes g.W.ByteSink.puts g.W.ByteSink.failed
    (verdict_text (verdict_of c.args.verdict.now)) _ _ c.flush.result
    (verdict_some (verdict_of c.args.verdict.now))
    (rw c.new-buffer.ensures at c.in_ok-write_verdict.ensures) c.flush.ensures.goes
    c.flush.ensures.empty
