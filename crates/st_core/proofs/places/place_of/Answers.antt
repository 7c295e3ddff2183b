-- The pids rise, so a pid that the binary search doesn't find isn't there.
use Rattle.st_core.proofs.Pids.{missing_from_search}
use Rattle.st_core.proofs.places.place_of.Goals as goal

pub returns-clause-missing : goal.returns-clause-missing
returns-clause-missing c =
    rw c.ok.ensures.value
    (missing_from_search c.args.pids.now c.args.pid c.binary_search.result c.requires
    c.binary_search.ensures.position)
