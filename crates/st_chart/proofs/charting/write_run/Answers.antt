-- The mark of the last lane follows the bars of the others.
use Rattle.std.proofs.Common.{length, sym}
use Rattle.st_text.proofs.ForCallers.{goes_still, then_on, part_longer, on_err}
use Rattle.st_chart.specs.Chart.{mark}
use Rattle.st_chart.specs.Parts.{bars}
use Rattle.st_chart.proofs.Bars.{run_marks, no_marks}
use Rattle.st_chart.proofs.charting.write_run.Goals as goal

pub returns-in_default : goal.returns-in_default
returns-in_default g c =
    let empty = rw c.in_default.is at c.split_last.ensures.cases in
    rw (no_marks c.args.charted.now c.args.lanes.now empty)
    (goes_still g.W.ByteSink.puts g.W.ByteSink.failed)

pub returns-in_err-write_bars : goal.returns-in_err-write_bars
returns-in_err-write_bars g c =
    let others = c.in-Some.others.now in
    let last = c.in-Some.last.now in
    let parts = rw c.in-Some.is at c.split_last.ensures.cases in
    let marks = run_marks c.args.charted.now c.args.lanes.now others last c.requires parts.0 in
    rw (sym marks) (on_err _ _ _ _ c.from_residual.ensures.0
    (part_longer g.W.ByteSink.puts g.W.ByteSink.failed (bars (length others))
    (mark c.args.charted.now last) _
    c.in_err-write_bars.ensures))

pub returns : goal.returns
returns g c =
    let others = c.in-Some.others.now in
    let last = c.in-Some.last.now in
    let parts = rw c.in-Some.is at c.split_last.ensures.cases in
    let marks = run_marks c.args.charted.now c.args.lanes.now others last c.requires parts.0 in
    let end = mark c.args.charted.now last in
    rw (sym marks)
    (then_on g.W.ByteSink.puts g.W.ByteSink.failed (bars (length others)) end _ _ c.put_on.result
    c.in_ok-write_bars.ensures (rw c.mark_of.ensures at c.put_on.ensures))
