-- The marks of the three parts follow each other.
use Rattle.std.proofs.Common.{◌++◌, sym}
use Rattle.std.specs.List.{flat_map}
use Rattle.st_text.proofs.ForCallers.{part_longer, then_on, goes_then, on_err, part_then}
use Rattle.st_chart.specs.Chart.{mark}
use Rattle.st_chart.proofs.Runs.{parts_marks}
use Rattle.st_chart.proofs.charting.write_runs.Goals as goal

pub returns-in_err-write_run : goal.returns-in_err-write_run
returns-in_err-write_run g c =
    let of = flat_map (mark c.args.charted.now) in
    let left = of c.split_at-2.result.0.now in
    let middle = of c.split_at-2.result.1.now in
    let right = of c.split_at.result.1.now in
    let marks =
    parts_marks c.args.charted.now c.args.lanes.now _ _ _ _ _ _ c.split_at.ensures.front
    c.split_at.ensures.back
    c.split_at-2.ensures.front c.split_at-2.ensures.back in
    rw (sym marks) (on_err _ _ _ _ c.from_residual.ensures.0
    (part_longer g.W.ByteSink.puts g.W.ByteSink.failed (left ++ middle) right _
    (part_longer g.W.ByteSink.puts g.W.ByteSink.failed left middle _ c.in_err-write_run.ensures)))

pub returns-in_err-write_run-2 : goal.returns-in_err-write_run-2
returns-in_err-write_run-2 g c =
    let of = flat_map (mark c.args.charted.now) in
    let left = of c.split_at-2.result.0.now in
    let middle = of c.split_at-2.result.1.now in
    let right = of c.split_at.result.1.now in
    let marks =
    parts_marks c.args.charted.now c.args.lanes.now _ _ _ _ _ _ c.split_at.ensures.front
    c.split_at.ensures.back
    c.split_at-2.ensures.front c.split_at-2.ensures.back in
    let part =
    part_then g.W.ByteSink.puts g.W.ByteSink.failed left middle c.in_ok-write_run.ensures
    c.in_err-write_run-2.ensures in
    rw (sym marks) (on_err _ _ _ _ c.from_residual-in_err-write_run-2.ensures.0
    (part_longer g.W.ByteSink.puts g.W.ByteSink.failed (left ++ middle) right _ part))

pub returns : goal.returns
returns g c =
    let of = flat_map (mark c.args.charted.now) in
    let left = of c.split_at-2.result.0.now in
    let middle = of c.split_at-2.result.1.now in
    let right = of c.split_at.result.1.now in
    let marks =
    parts_marks c.args.charted.now c.args.lanes.now _ _ _ _ _ _ c.split_at.ensures.front
    c.split_at.ensures.back
    c.split_at-2.ensures.front c.split_at-2.ensures.back in
    let begun =
    goes_then g.W.ByteSink.puts g.W.ByteSink.failed left middle c.in_ok-write_run.ensures
    c.in_ok-write_run-2.ensures in
    rw (sym marks)
    (then_on g.W.ByteSink.puts g.W.ByteSink.failed (left ++ middle) right _ _ c.write_run-3.result
    begun
    c.write_run-3.ensures)
