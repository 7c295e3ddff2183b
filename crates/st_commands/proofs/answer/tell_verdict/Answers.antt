-- The text was written whole and the status is the verdict's, or the writer failed and it is 4.
use Rattle.st_check.specs.Answers.{verdict_of}
use Rattle.st_commands.specs.Command.{call}
use Rattle.st_commands.specs.Output.{judged}
use Rattle.st_commands.proofs.Deliveries.{delivers}
use Rattle.st_commands.proofs.answer.tell_verdict.Goals as goal

pub returns : goal.returns
returns g c =
    delivers (call g.W.ByteSink _ _) (judged (verdict_of c.args.verdict.now))
    c.send_verdict-sent.result _
    c.send_verdict-sent.ensures (rw c.verdict_status.ensures at c.status_of.ensures)
