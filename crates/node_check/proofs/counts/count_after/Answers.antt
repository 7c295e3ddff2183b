-- The size of a serial divides that of a counter.
use Rattle.std.proofs.Common.{◌+◌}
use Rattle.std.proofs.Math.Pow.{mod-mod-pow}
use Rattle.node_machine.specs.Counts.{serial_count}
use Rattle.node_check.proofs.counts.count_after.Goals as goal

pub returns : goal.returns
unfolding serial_count
returns c = mod-mod-pow (c.args.clock + 1) 4 60
