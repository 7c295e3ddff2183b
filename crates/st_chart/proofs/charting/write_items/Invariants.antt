-- The lines of the items so far were written, or wait.
use Rattle.std.proofs.Common.{take}
use Rattle.std.specs.List.{flat_map}
use Rattle.st_text.specs.Writing.{Goes}
use Rattle.st_chart.specs.Sheet.{line_on}
use Rattle.st_chart.proofs.charting.write_items.Given as goal

abbrev pub invariant-loop-item : goal.invariant-loop-item
invariant-loop-item g l =
    Goes g.W.ByteSink.puts g.W.ByteSink.failed
    (flat_map (line_on l.sheet) (take l.item-index l.items)) l.initial.writer l.writer
    l.initial.page.waits.items l.page.waits.items
