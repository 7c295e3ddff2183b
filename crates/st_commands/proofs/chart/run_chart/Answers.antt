-- The reader says which bytes it gave, an output that is owed for them was delivered, and the
-- status says what that output means.
use Rattle.st_commands.specs.Command.{call}
use Rattle.st_commands.specs.Charted.{IsCharted, Faulty}
use Rattle.st_commands.proofs.Deliveries.{owes_chart, performs, tells_as, tells_fault, was_read}
use Rattle.st_commands.proofs.ChartMeanings.{charted_means, no_chart_means}
use Rattle.st_text.specs.Limits.{standard}
use Rattle.st_commands.proofs.chart.run_chart.Goals as goal

pub returns-in-Ok : goal.returns-in-Ok
returns-in-Ok g c =
    let read = was_read standard (call g.R.ByteSource _ _) c.in-Ok.bundle c.in-Ok.ensures in
    performs (charted_means standard c.args.label) (no_chart_means standard c.args.label)
    (tells_as _ _ (owes_chart _ _ _ read c.args.label) c.chart_streams.ensures)

pub returns-in-Err : goal.returns-in-Err
returns-in-Err g c =
    performs (charted_means standard c.args.label) (no_chart_means standard c.args.label)
    (tells_fault standard (call g.R.ByteSource _ _) (IsCharted standard c.args.label)
    Faulty _ _ c.in-Err.fault
    c.in-Err.ensures c.tell_fault.ensures)
