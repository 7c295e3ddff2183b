-- By induction over the run, from what a stamp does to its process's clock.
use Rattle.st_core.proofs.Clocks.{stamps_lift}
use Rattle.st_core.proofs.laws.stamps_lift_clocks.Goals as goal

pub returns : goal.returns
returns c = stamps_lift
