-- The pids of the collected streams are the list of pids.
use Rattle.std.proofs.Common.{sym}
use Rattle.st_core.proofs.Collections.{pids_of-collected, draft_from_collected}
use Rattle.st_core.proofs.streams.Draft.pids.Goals as goal

pub returns-clause-value : goal.returns-clause-value
returns-clause-value c =
    rw (c.as_slice.ensures.value, ← c.self.view_is)
    (sym (pids_of-collected _ _ c.self.invariant.even))

pub returns-clause-draft : goal.returns-clause-draft
returns-clause-draft c = rw (← c.self.view_is) (draft_from_collected _ _ _ c.self.invariant)
