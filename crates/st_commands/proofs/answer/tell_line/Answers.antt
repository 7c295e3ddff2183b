-- The line was written whole and the status is its own, or the writer failed and it is 4.
use Rattle.st_text.specs.Spelling.{ended_line}
use Rattle.st_commands.specs.Command.{call}
use Rattle.st_commands.proofs.Deliveries.{delivers}
use Rattle.st_commands.proofs.answer.tell_line.Goals as goal

pub returns : goal.returns
returns g c =
    delivers (call g.W.ByteSink _ _)
    (record { text = ended_line (g.L.TextLine.words c.args.line); status = c.args.status })
    c.send_line-sent.result _ c.send_line-sent.ensures c.status_of.ensures
