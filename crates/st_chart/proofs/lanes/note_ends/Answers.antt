-- The two ends are added one after the other.
use Rattle.st_chart.proofs.Common.{both_noted}
use Rattle.st_chart.proofs.lanes.note_ends.Goals as goal

pub returns-in-Ok-insert : goal.returns-in-Ok-insert
returns-in-Ok-insert c = λ p.
    rw c.in-Some.is
    (both_noted c.args.event.now.from c.in-Some.to p _ _ _ (c.in-Ok.ensures.updates.0 p)
    (c.in-Ok-insert.ensures.updates.0 p))
