-- By induction over the run, from what a step does to a clock.
use Rattle.st_core.proofs.Clocks as clocks
use Rattle.st_core.proofs.laws.clocks_never_fall.Goals as goal

pub returns : goal.returns
returns c = clocks.clocks_never_fall
