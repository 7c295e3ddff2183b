-- The lemma says it.
use Rattle.node_machine.proofs.Places.{needs_met}
use Rattle.node_machine.proofs.laws.each_need_has_its_put_back.Goals as goal

pub returns : goal.returns
returns c = needs_met
