-- Each turn appends a run of bars to those before.
use Rattle.std.proofs.Common.{◌≡◌, ◌-◌, ◌≤◌, sym, arith}
use Rattle.st_text.proofs.ForCallers.{goes_still, goes_then, on_err}
use Rattle.st_chart.specs.Parts.{bars}
use Rattle.st_chart.proofs.Bars.{bars_failed, bars_more}
use Rattle.st_chart.proofs.charting.write_bars.Goals as goal

pub loop-left-init : goal.loop-left-init
loop-left-init g c =
    let none : c.args.count - c.args.count ≡ 0 = omega arith in
    (omega arith, rw none (goes_still g.W.ByteSink.puts g.W.ByteSink.failed))

pub loop-left-preserved : goal.loop-left-preserved
loop-left-preserved g c =
    let left = c.loop-left.left in
    let run = c.min-run.result in
    let within = c.loop-left.invariant.0 in
    let upto : run ≤ left = omega (arith, c.min-run.ensures) in
    let went = rw c.bars_of.ensures at c.in_ok-put_on.ensures in
    let more = bars_more c.args.count left run within upto in (
      omega (arith, within),
      rw (sym more)
          (goes_then g.W.ByteSink.puts g.W.ByteSink.failed (bars (c.args.count - left)) (bars run)
          c.loop-left.invariant.1 went),
    )

pub returns-in_err-put_on : goal.returns-in_err-put_on
returns-in_err-put_on g c =
    let left = c.loop-left.left in
    let run = c.min-run.result in
    let upto : run ≤ left = omega (arith, c.min-run.ensures) in
    on_err _ _ _ _ c.from_residual.ensures.0
    (bars_failed g.W.ByteSink.puts g.W.ByteSink.failed c.args.count left run c.loop-left.invariant.0
    upto
    c.loop-left.invariant.1 (rw c.bars_of.ensures at c.in_err-put_on.ensures))

pub returns : goal.returns
returns g c =
    let all : c.args.count ≡ c.args.count - c.loop-left.left =
    omega (arith, c.loop-left-test.false) in
    rw all c.loop-left.invariant.1
