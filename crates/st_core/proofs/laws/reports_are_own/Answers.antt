-- By induction over the run, from what a step's report names.
use Rattle.st_core.proofs.Names as names
use Rattle.st_core.proofs.laws.reports_are_own.Goals as goal

pub returns : goal.returns
returns c = names.run_named
