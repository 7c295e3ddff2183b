-- An item without the label adds nothing.
use Rattle.std.proofs.Common.{◌∙◌, sym, Some, None}
use Rattle.st_text.proofs.ForCallers.{goes_still}
use Rattle.st_chart.proofs.Lines.{line_of}
use Rattle.st_chart.proofs.charting.write_if_charted.Goals as goal

pub returns-in-None : goal.returns-in-None
returns-in-None g c =
    let s = c.args.sheet.now in
    rw (line_of s.streams.now s.label s.chains.now s.lanes.now c.args.item None
    (sym c.of.ensures ∙ c.in-None.is)) (goes_still g.W.ByteSink.puts g.W.ByteSink.failed)

pub returns-in-Some : goal.returns-in-Some
returns-in-Some g c =
    let s = c.args.sheet.now in
    rw (line_of s.streams.now s.label s.chains.now s.lanes.now c.args.item
    (Some c.in-Some.charted) (sym c.of.ensures ∙ c.in-Some.is)) c.write_item.ensures
