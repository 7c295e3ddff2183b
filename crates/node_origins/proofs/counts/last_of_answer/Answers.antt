-- A serial shows a count modulo its size.
use Rattle.std.proofs.Common.{ap, ◌∙◌}
use Rattle.node_machine.specs.Counts.{serial_count}
use Rattle.node_given.proofs.ForCallers.{serial_is}
use Rattle.node_origins.proofs.counts.last_of_answer.Goals as goal

pub returns : goal.returns
returns c = serial_is c.clock_of_answer.result ∙ ap serial_count c.clock_of_answer.ensures
