-- The pids of the collected streams are the list of pids.
use Rattle.st_core.proofs.Collections.{pids_of-collected}
use Rattle.st_core.proofs.streams.Draft.place_of.Goals as goal

pub returns-clause-found : goal.returns-clause-found
returns-clause-found c =
    let found = rw c.deref.ensures.value at c.place_of.ensures.found in
    rw (← c.self.view_is, pids_of-collected _ _ c.self.invariant.even) found

pub returns-clause-missing : goal.returns-clause-missing
returns-clause-missing c =
    let missing = rw c.deref.ensures.value at c.place_of.ensures.missing in
    rw (← c.self.view_is, pids_of-collected _ _ c.self.invariant.even) missing
