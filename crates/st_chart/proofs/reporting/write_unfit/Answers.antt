-- Three texts follow each other.
use Rattle.std.proofs.Common.{◌++◌}
use Rattle.st_text.proofs.ForCallers.{part_longer, then_on, goes_then, on_err, part_then}
use Rattle.st_chart.specs.Report.{unfit_line, event_line, evidence}
use Rattle.st_chart.proofs.reporting.write_unfit.Goals as goal

pub returns-in_err-write_unfit_line : goal.returns-in_err-write_unfit_line
returns-in_err-write_unfit_line g c =
    let first = unfit_line c.args.pid c.args.index c.args.reason.now in
    let event = event_line c.args.streams.now c.args.pid c.args.index in
    let rest = evidence c.args.streams.now c.args.pid c.args.reason.now in
    on_err _ _ _ _ c.from_residual.ensures.0
    (part_longer g.W.ByteSink.puts g.W.ByteSink.failed (first ++ event) rest _
    (part_longer g.W.ByteSink.puts g.W.ByteSink.failed first event _
    c.in_err-write_unfit_line.ensures))

pub returns-in_err-write_event : goal.returns-in_err-write_event
returns-in_err-write_event g c =
    let first = unfit_line c.args.pid c.args.index c.args.reason.now in
    let event = event_line c.args.streams.now c.args.pid c.args.index in
    let rest = evidence c.args.streams.now c.args.pid c.args.reason.now in
    let part =
    part_then g.W.ByteSink.puts g.W.ByteSink.failed first event c.in_ok-write_unfit_line.ensures
    c.in_err-write_event.ensures in
    on_err _ _ _ _ c.from_residual-in_err-write_event.ensures.0
    (part_longer g.W.ByteSink.puts g.W.ByteSink.failed (first ++ event) rest _ part)

pub returns : goal.returns
returns g c =
    let first = unfit_line c.args.pid c.args.index c.args.reason.now in
    let event = event_line c.args.streams.now c.args.pid c.args.index in
    let rest = evidence c.args.streams.now c.args.pid c.args.reason.now in
    let begun =
    goes_then g.W.ByteSink.puts g.W.ByteSink.failed first event c.in_ok-write_unfit_line.ensures
    c.in_ok-write_event.ensures in
    then_on g.W.ByteSink.puts g.W.ByteSink.failed (first ++ event) rest _ _ c.write_evidence.result
    begun
    c.write_evidence.ensures
