-- Three texts follow each other.
use Rattle.std.proofs.Common.{◌++◌}
use Rattle.std.specs.List.{flat_map}
use Rattle.st_text.proofs.ForCallers.{part_longer, then_on, goes_then, on_err, part_then}
use Rattle.st_chart.specs.Chart.{all_charted, item_line, label_line, lane_lines}
use Rattle.st_chart.proofs.Lines.{lines_are}
use Rattle.st_chart.proofs.charting.write_chart.Goals as goal

pub returns-in_err-write_label : goal.returns-in_err-write_label
returns-in_err-write_label g c =
    let s = c.args.sheet.now in
    let first = label_line s.label in
    let lanes = lane_lines 1 s.lanes.now in
    let xs = all_charted s.streams.now c.args.items.now s.label in
    let rest = flat_map (item_line s.chains.now s.lanes.now) xs in
    on_err _ _ _ _ c.from_residual.ensures.0
    (part_longer g.W.ByteSink.puts g.W.ByteSink.failed (first ++ lanes) rest _
    (part_longer g.W.ByteSink.puts g.W.ByteSink.failed first lanes _ c.in_err-write_label.ensures))

pub returns-in_err-write_lanes : goal.returns-in_err-write_lanes
returns-in_err-write_lanes g c =
    let s = c.args.sheet.now in
    let first = label_line s.label in
    let lanes = lane_lines 1 s.lanes.now in
    let xs = all_charted s.streams.now c.args.items.now s.label in
    let rest = flat_map (item_line s.chains.now s.lanes.now) xs in
    let part =
    part_then g.W.ByteSink.puts g.W.ByteSink.failed first lanes c.in_ok-write_label.ensures
    c.in_err-write_lanes.ensures in
    on_err _ _ _ _ c.from_residual-in_err-write_lanes.ensures.0
    (part_longer g.W.ByteSink.puts g.W.ByteSink.failed (first ++ lanes) rest _ part)

pub returns : goal.returns
returns g c =
    let s = c.args.sheet.now in
    let first = label_line s.label in
    let lanes = lane_lines 1 s.lanes.now in
    let xs = all_charted s.streams.now c.args.items.now s.label in
    let rest = flat_map (item_line s.chains.now s.lanes.now) xs in
    let same = lines_are s.streams.now s.label s.chains.now s.lanes.now c.args.items.now in
    let begun =
    goes_then g.W.ByteSink.puts g.W.ByteSink.failed first lanes c.in_ok-write_label.ensures
    c.in_ok-write_lanes.ensures in
    then_on g.W.ByteSink.puts g.W.ByteSink.failed (first ++ lanes) rest _ _ c.write_items.result
    begun
    (rw same at c.write_items.ensures)
