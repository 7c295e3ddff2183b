-- The lemma says it.
use Rattle.node_machine.proofs.NeedsAnyway.{needs_put_back_anyway}
use Rattle.node_machine.proofs.laws.each_strange_prev_is_a_put_back.Goals as goal

pub returns : goal.returns
returns c = needs_put_back_anyway
