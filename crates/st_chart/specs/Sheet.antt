-- Drawing a sheet: the line of an item, and the whole chart.
use Rattle.std.specs.Prelude.{ℕ, List}
use Rattle.st_order.specs.declared.item.Item.{Item}
use Rattle.st_chart.specs.declared.sheet.Sheet.{Sheet}
use Rattle.st_chart.specs.Chart.{all_charted, chart_lines}
use Rattle.st_chart.specs.Parts.{line_in}

-- an item's line, if it has the label
abbrev pub line_on : Sheet → Item → List ℕ
line_on s x = line_in s.streams.now s.label s.chains.now s.lanes.now x

-- the lines of the label, of the lanes, and of the items that have the label
abbrev pub sheet_lines : Sheet → List Item → List ℕ
sheet_lines s items =
    chart_lines s.chains.now s.label s.lanes.now (all_charted s.streams.now items s.label)
