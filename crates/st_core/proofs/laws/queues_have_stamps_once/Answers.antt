-- A send's new stamp is above its actor's clock, which no waiting stamp of the actor's is.
use Rattle.st_core.proofs.Once.{run_once}
use Rattle.st_core.proofs.laws.queues_have_stamps_once.Goals as goal

pub returns : goal.returns
returns c = run_once
