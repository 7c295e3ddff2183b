-- Room is made first, and the line then waits in the buffer.
use Rattle.st_text.proofs.ForCallers.{no_room}
use Rattle.st_chart.specs.Report.{unfit_line}
use Rattle.st_chart.proofs.reporting.write_unfit_line.Goals as goal

pub returns-in_err-make_room : goal.returns-in_err-make_room
returns-in_err-make_room g c =
    no_room g.W.ByteSink.puts g.W.ByteSink.failed
    (unfit_line c.args.pid c.args.index c.args.reason.now) _ _ _
    c.from_residual.ensures.0 c.in_err-make_room.ensures.goes
