-- All waiting bytes are sent at the end.
use Rattle.st_text.proofs.ForCallers.{finishes}
use Rattle.st_chart.specs.Chart.{all_charted, chart_lines}
use Rattle.st_chart.proofs.Texts.{chart_some}
use Rattle.st_chart.proofs.charting.send_chart.Goals as goal

pub returns : goal.returns
returns g c =
    let s = c.args.sheet.now in
    let xs = all_charted s.streams.now c.args.items.now s.label in
    let text = chart_lines s.chains.now s.label s.lanes.now xs in
    finishes g.W.ByteSink.puts g.W.ByteSink.failed text _ _ c.turn.result
    (chart_some s.chains.now s.label s.lanes.now xs)
    (rw c.new-page.ensures at c.in_ok-write_chart.ensures) c.turn.ensures.goes c.turn.ensures.empty
