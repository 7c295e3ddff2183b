-- A serial shows a number modulo its size, which is below it.
use Rattle.std.proofs.Common.{refl}
use Rattle.node_machine.specs.Counts.{serial_count}
use Rattle.node_check.proofs.counts.shown.Goals as goal

pub returns-clause-value : goal.returns-clause-value
unfolding serial_count
returns-clause-value c = refl
