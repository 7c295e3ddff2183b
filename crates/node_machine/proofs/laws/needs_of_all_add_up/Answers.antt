-- The lemma says it.
use Rattle.node_machine.proofs.NeedsOfAll.{needs_of_all}
use Rattle.node_machine.proofs.laws.needs_of_all_add_up.Goals as goal

pub returns : goal.returns
returns c = needs_of_all
