-- The marks so far were written, or wait.
use Rattle.std.proofs.Common.{take}
use Rattle.std.specs.List.{flat_map}
use Rattle.st_text.specs.Writing.{Goes}
use Rattle.st_chart.specs.Chart.{mark}
use Rattle.st_chart.proofs.charting.write_each_mark.Given as goal

abbrev pub invariant-loop-lane : goal.invariant-loop-lane
invariant-loop-lane g l =
    Goes g.W.ByteSink.puts g.W.ByteSink.failed
    (flat_map (mark l.charted) (take l.lane-index l.lanes))
    l.initial.writer l.writer l.initial.page.waits.items l.page.waits.items
