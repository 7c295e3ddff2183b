-- By induction over the run, from what a stamp does to its process's clock.
use Rattle.st_core.proofs.Clocks as clocks
use Rattle.st_core.proofs.laws.reported_stamps_lift_clocks.Goals as goal

pub returns : goal.returns
returns c = clocks.reported_stamps_lift
