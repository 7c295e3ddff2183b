-- All waiting bytes are sent at the end.
use Rattle.st_text.proofs.ForCallers.{finishes}
use Rattle.st_chart.specs.Report.{unfit_text}
use Rattle.st_chart.proofs.Texts.{unfit_some}
use Rattle.st_chart.proofs.reporting.send_unfit.Goals as goal

pub returns : goal.returns
returns g c =
    let text = unfit_text c.args.streams.now c.args.pid c.args.index c.args.reason.now in
    finishes g.W.ByteSink.puts g.W.ByteSink.failed text _ _ c.flush.result
    (unfit_some c.args.streams.now c.args.pid c.args.index c.args.reason.now)
    (rw c.new-buffer.ensures at c.in_ok-write_unfit.ensures) c.flush.ensures.goes
    c.flush.ensures.empty
