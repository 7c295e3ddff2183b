-- Each text has at least one line, so none is empty.
use Rattle.std.proofs.Common.{ℕ, ◌<◌, List, ◌++◌, length, codes}
use Rattle.std.specs.List.{flat_map}
use Rattle.st_core.specs.declared.types.Pid.{Pid}
use Rattle.st_core.specs.declared.types.Label.{Label}
use Rattle.st_core.specs.Run.{Stream}
use Rattle.st_text.specs.Spelling as spelled
use Rattle.st_text.proofs.ForCallers.{front_some, line_some}
use Rattle.st_audit.specs.declared.finding.Reason.{Reason}
use Rattle.st_chart.specs.Words.{place_words}
use Rattle.st_chart.specs.declared.charted_item.ChartedItem.{ChartedItem}
use Rattle.st_chart.specs.Chart.{label_line, lane_lines, item_line, chart_lines}
use Rattle.st_chart.specs.Report.{unfit_line, reason_words, event_line, evidence, unfit_text}

pub unfit_some : (streams : List Stream) (p : Pid) (i : ℕ) (r : Reason)
    → 0 < length (unfit_text streams p i r)
unfit_some streams p i r =
    let first = unfit_line p i r in
    let event = event_line streams p i in
    front_some (first ++ event) (evidence streams p r)
    (front_some first event (line_some
    (codes "unfit " ++ place_words p i ++ codes " " ++ reason_words p r)))

pub chart_some : (streams : List Stream) (label : Label) (ps : List Pid) (xs : List ChartedItem)
    → 0 < length (chart_lines streams label ps xs)
chart_some streams label ps xs =
    front_some (label_line label ++ lane_lines 1 ps) (flat_map (item_line streams ps) xs)
    (front_some (label_line label) (lane_lines 1 ps)
    (line_some (codes "label " ++ spelled.label label)))
