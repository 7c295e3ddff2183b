-- The first event in the lists that names an unlisted pid is the first in the collected streams.
use Rattle.std.proofs.Common.{sym}
use Rattle.st_core.proofs.Collections.{unlisted-collected, draft_from_collected}
use Rattle.st_core.proofs.streams.Draft.first_unlisted.Goals as goal

pub returns-clause-place : goal.returns-clause-place
returns-clause-place c =
    rw (c.first_failing.ensures, c.deref.ensures.value, c.deref-2.ensures.value, ← c.self.view_is)
    (sym (unlisted-collected _ _ c.self.invariant.even))

pub returns-clause-draft : goal.returns-clause-draft
returns-clause-draft c = rw (← c.self.view_is) (draft_from_collected _ _ _ c.self.invariant)
