-- Each turn appends the line of the next lane to those before.
use Rattle.st_text.proofs.ForCallers.{goes_still, on_err}
use Rattle.st_chart.proofs.Lines.{lanes_failed, lanes_more}
use Rattle.st_chart.proofs.charting.write_lanes.Goals as goal

pub loop-i-init : goal.loop-i-init
loop-i-init g c = goes_still g.W.ByteSink.puts g.W.ByteSink.failed

pub loop-i-preserved : goal.loop-i-preserved
loop-i-preserved g c =
    let went =
    rw (c.as_slice.ensures.value, c.put_lane_line.ensures, c.clear.ensures) at
    c.in_ok-put_on.ensures in
    lanes_more g.W.ByteSink.puts g.W.ByteSink.failed c.args.lanes.now c.loop-i.i _
    c.loop-i-test.true
    c.loop-i.invariant went

pub returns-in_err-put_on : goal.returns-in_err-put_on
returns-in_err-put_on g c =
    let failed =
    rw (c.as_slice.ensures.value, c.put_lane_line.ensures, c.clear.ensures) at
    c.in_err-put_on.ensures in
    on_err _ _ _ _ c.from_residual.ensures.0
    (lanes_failed g.W.ByteSink.puts g.W.ByteSink.failed c.args.lanes.now c.loop-i.i _
    c.loop-i-test.true
    c.loop-i.invariant failed)
