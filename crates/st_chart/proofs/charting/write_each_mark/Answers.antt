-- Each turn appends the next mark to those before.
use Rattle.std.proofs.Common.{refl}
use Rattle.st_text.proofs.ForCallers.{goes_still, one_more, one_failed, all_done, on_err}
use Rattle.st_chart.specs.Chart.{mark}
use Rattle.st_chart.proofs.charting.write_each_mark.Goals as goal

pub loop-lane-init : goal.loop-lane-init
loop-lane-init g c = goes_still g.W.ByteSink.puts g.W.ByteSink.failed

pub loop-lane-preserved : goal.loop-lane-preserved
loop-lane-preserved g c =
    one_more g.W.ByteSink.puts g.W.ByteSink.failed (mark c.args.charted.now) c.args.lanes.now
    c.loop-lane.lane-index _
    c.loop-lane-test.true c.loop-lane.invariant (rw c.mark_of.ensures at c.in_ok-put_on.ensures)

pub returns-in_err-put_on : goal.returns-in_err-put_on
returns-in_err-put_on g c =
    on_err _ _ _ _ c.from_residual.ensures.0
    (one_failed g.W.ByteSink.puts g.W.ByteSink.failed (mark c.args.charted.now) c.args.lanes.now
    c.loop-lane.lane-index _ refl c.loop-lane-test.true c.loop-lane.invariant
    (rw c.mark_of.ensures at c.in_err-put_on.ensures))

pub returns : goal.returns
returns g c =
    all_done g.W.ByteSink.puts g.W.ByteSink.failed (mark c.args.charted.now) c.args.lanes.now
    c.loop-lane.lane-index
    refl c.loop-lane-test.false c.loop-lane.invariant
