-- The lemma says it.
use Rattle.node_machine.proofs.Sent.{taken_are_sent}
use Rattle.node_machine.proofs.laws.reported_sends_are_all_that_is_taken.Goals as goal

pub returns : goal.returns
returns c = taken_are_sent
