-- The lemma says it.
use Rattle.node_machine.proofs.Labels.{earlier_token}
use Rattle.node_machine.proofs.laws.a_new_label_is_given_before_its_stamps.Goals as goal

pub returns : goal.returns
returns c = earlier_token
