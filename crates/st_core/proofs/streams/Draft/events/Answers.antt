-- The list at the process's place is the process's stream.
use Rattle.std.proofs.Common.{sym}
use Rattle.st_core.proofs.Collections.{events_of-missing, events_of-read, draft_from_collected}
use Rattle.st_core.proofs.streams.Draft.events.Goals as goal

pub returns-in-None-clause-value : goal.returns-in-None-clause-value
returns-in-None-clause-value c =
    let none = rw c.deref.ensures.value at c.in-None.ensures.missing in
    rw (← c.self.view_is) (sym (events_of-missing _ _ _ none))

pub returns-in-Some-clause-value : goal.returns-in-Some-clause-value
returns-in-Some-clause-value c =
    let at = rw c.deref.ensures.value at c.in-Some.ensures.found in
    rw (c.as_slice.ensures, ← c.self.view_is)
    (events_of-read _ _ _ _ _ c.self.invariant.even c.self.invariant.rising at c.index.ensures)

pub returns-in-None-clause-draft : goal.returns-in-None-clause-draft
returns-in-None-clause-draft c = rw (← c.self.view_is) (draft_from_collected _ _ _ c.self.invariant)

pub returns-in-Some-clause-draft : goal.returns-in-Some-clause-draft
returns-in-Some-clause-draft c = rw (← c.self.view_is) (draft_from_collected _ _ _ c.self.invariant)
