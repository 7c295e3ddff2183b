-- The lemma says it.
use Rattle.node_machine.proofs.Decided.{stamps_final}
use Rattle.node_machine.proofs.laws.what_is_not_given_is_final.Goals as goal

pub returns : goal.returns
returns c = stamps_final
