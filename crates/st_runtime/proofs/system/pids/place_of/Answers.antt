-- A pid that is found is among the pids, and one that is missing isn't.
use Rattle.st_runtime.proofs.PidLemmas.{place_tells}
use Rattle.st_runtime.proofs.system.pids.place_of.Goals as goal

pub returns-clause-variant : goal.returns-clause-variant
returns-clause-variant c = place_tells c.args.pids.now c.args.pid c.place_of.result
    c.place_of.ensures.found c.place_of.ensures.missing
