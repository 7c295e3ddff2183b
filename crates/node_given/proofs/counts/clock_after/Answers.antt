-- A sum that wraps is the sum modulo the size of a counter.
use Rattle.node_given.proofs.CountValues.{clock_is}
use Rattle.node_given.proofs.counts.clock_after.Goals as goal

pub returns : goal.returns
returns c = clock_is c.args.clock
