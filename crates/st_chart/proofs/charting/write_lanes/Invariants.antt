-- The lines of the lanes so far were written, or wait.
use Rattle.std.proofs.Common.{take}
use Rattle.st_text.specs.Writing.{Goes}
use Rattle.st_chart.specs.Chart.{lane_lines}
use Rattle.st_chart.proofs.charting.write_lanes.Given as goal

abbrev pub invariant-loop-i : goal.invariant-loop-i
invariant-loop-i g l =
    Goes g.W.ByteSink.puts g.W.ByteSink.failed (lane_lines 1 (take l.i l.lanes)) l.initial.writer
    l.writer
    l.initial.page.waits.items l.page.waits.items
