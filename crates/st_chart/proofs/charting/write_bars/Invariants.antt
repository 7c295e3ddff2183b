-- All bars but the left ones were written, or wait.
use Rattle.std.proofs.Common.{◌-◌, ◌≤◌}
use Rattle.st_text.specs.Writing.{Goes}
use Rattle.st_chart.specs.Parts.{bars}
use Rattle.st_chart.proofs.charting.write_bars.Given as goal

abbrev pub invariant-loop-left : goal.invariant-loop-left
invariant-loop-left g l =
    (l.left ≤ l.count)
    × Goes g.W.ByteSink.puts g.W.ByteSink.failed (bars (l.count - l.left)) l.initial.writer l.writer
    l.initial.page.waits.items l.page.waits.items

abbrev pub decreases-loop-left : goal.decreases-loop-left
decreases-loop-left g l = l.left
