-- The size of a serial divides that of a counter.
use Rattle.node_given.proofs.ForCallers.{count_is}
use Rattle.node_origins.proofs.counts.count_after.Goals as goal

pub returns : goal.returns
returns c = count_is c.args.clock
