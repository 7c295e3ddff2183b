-- The words follow the marks.
use Rattle.std.proofs.Common.{codes, ◌++◌}
use Rattle.std.specs.List.{flat_map}
use Rattle.st_text.specs.Spelling.{ended_line}
use Rattle.st_text.proofs.ForCallers.{then_on, part_longer, on_err}
use Rattle.st_chart.specs.Chart.{mark, item_words}
use Rattle.st_chart.proofs.charting.write_item.Goals as goal

pub returns-in_err-write_marks : goal.returns-in_err-write_marks
returns-in_err-write_marks g c =
    let s = c.args.sheet.now in
    let marks = flat_map (mark c.args.charted.now) s.lanes.now in
    let words = ended_line (codes "  " ++ item_words s.chains.now c.args.charted.now) in
    on_err _ _ _ _ c.from_residual.ensures.0
    (part_longer g.W.ByteSink.puts g.W.ByteSink.failed marks words _ c.in_err-write_marks.ensures)

pub returns : goal.returns
returns g c =
    let s = c.args.sheet.now in
    let marks = flat_map (mark c.args.charted.now) s.lanes.now in
    let words = ended_line (codes "  " ++ item_words s.chains.now c.args.charted.now) in
    then_on g.W.ByteSink.puts g.W.ByteSink.failed marks words _ _ c.put_on.result
    c.in_ok-write_marks.ensures
    (rw (c.as_slice.ensures.value, c.put_item.ensures, c.clear.ensures) at c.put_on.ensures)
