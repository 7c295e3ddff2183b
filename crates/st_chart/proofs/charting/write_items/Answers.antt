-- Each turn appends the line of the next item, if it has one, to those before.
use Rattle.std.proofs.Common.{refl}
use Rattle.st_text.proofs.ForCallers.{goes_still, one_more, one_failed, all_done, on_err}
use Rattle.st_chart.specs.Sheet.{line_on}
use Rattle.st_chart.proofs.charting.write_items.Goals as goal

pub loop-item-init : goal.loop-item-init
loop-item-init g c = goes_still g.W.ByteSink.puts g.W.ByteSink.failed

pub loop-item-preserved : goal.loop-item-preserved
loop-item-preserved g c =
    let text = line_on c.args.sheet.now in
    one_more g.W.ByteSink.puts g.W.ByteSink.failed text c.args.items.now c.loop-item.item-index _
    c.loop-item-test.true c.loop-item.invariant c.in_ok-write_if_charted.ensures

pub returns-in_err-write_if_charted : goal.returns-in_err-write_if_charted
returns-in_err-write_if_charted g c =
    let text = line_on c.args.sheet.now in
    on_err _ _ _ _ c.from_residual.ensures.0
    (one_failed g.W.ByteSink.puts g.W.ByteSink.failed text c.args.items.now c.loop-item.item-index _
    refl c.loop-item-test.true c.loop-item.invariant c.in_err-write_if_charted.ensures)

pub returns : goal.returns
returns g c =
    let text = line_on c.args.sheet.now in
    all_done g.W.ByteSink.puts g.W.ByteSink.failed text c.args.items.now c.loop-item.item-index refl
    c.loop-item-test.false c.loop-item.invariant
