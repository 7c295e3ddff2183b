-- A sum that wraps is the sum modulo the size of a counter.
use Rattle.std.proofs.Common.{refl}
use Rattle.node_machine.specs.Counts.{counter_value}
use Rattle.node_check.proofs.counts.clock_after.Goals as goal

pub returns : goal.returns
unfolding counter_value
returns c = refl
