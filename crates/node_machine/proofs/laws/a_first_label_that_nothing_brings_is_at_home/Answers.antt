-- The lemma says it.
use Rattle.node_machine.proofs.Labels.{first_is_home}
use Rattle.node_machine.proofs.laws.a_first_label_that_nothing_brings_is_at_home.Goals as goal

pub returns : goal.returns
returns c = first_is_home
