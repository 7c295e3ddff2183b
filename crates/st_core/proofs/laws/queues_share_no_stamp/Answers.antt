-- A new stamp is above its actor's clock, which no waiting stamp of the actor's is.
use Rattle.st_core.proofs.Apart.{run_apart}
use Rattle.st_core.proofs.laws.queues_share_no_stamp.Goals as goal

pub returns : goal.returns
returns c = run_apart
