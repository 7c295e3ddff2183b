-- The lemma says it.
use Rattle.node_machine.proofs.Needs.{needs_put_back}
use Rattle.node_machine.proofs.laws.each_need_is_a_put_back.Goals as goal

pub returns : goal.returns
returns c = needs_put_back
