-- The row at a pid's place is that pid's, and its links are those of the pid's events.
use Rattle.std.proofs.Common.{◌∙◌}
use Rattle.st_pair.proofs.Linkage.{row_none, row_read}
use Rattle.st_pair.proofs.pairing.Pairing.link.Goals as goal

pub returns-in-None : goal.returns-in-None
returns-in-None c =
    let none = rw c.deref.ensures.value at c.in-None.ensures.missing in
    rw (← c.self.view_is) (row_none _ _ c.args.pid c.args.index none)

pub returns-in-Some : goal.returns-in-Some
returns-in-Some c =
    let at = rw c.deref.ensures.value at c.in-Some.ensures.found in
    let read = rw c.as_slice.ensures at c.nth_link.ensures in
    rw (← c.self.view_is) (read ∙ row_read _ _ c.args.pid _ c.args.index _ c.self.invariant.even
    c.self.invariant.rising at c.index.ensures)
