-- The report was written whole and the status is the finding's, or the writer failed and it is 4.
use Rattle.st_commands.specs.Command.{call}
use Rattle.st_commands.specs.Audited.{report_output}
use Rattle.st_commands.proofs.Deliveries.{delivers}
use Rattle.st_commands.proofs.answer.tell_finding.Goals as goal

pub returns : goal.returns
returns g c =
    delivers (call g.W.ByteSink _ _) (report_output c.args.streams.now c.args.finding.now)
    c.report-sent.result _
    c.report-sent.ensures (rw c.finding_status.ensures at c.status_of.ensures)
