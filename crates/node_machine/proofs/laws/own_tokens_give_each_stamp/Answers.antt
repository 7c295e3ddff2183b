-- The lemma says it.
use Rattle.node_machine.proofs.Givens.{stamps_given}
use Rattle.node_machine.proofs.laws.own_tokens_give_each_stamp.Goals as goal

pub returns : goal.returns
returns c = stamps_given
