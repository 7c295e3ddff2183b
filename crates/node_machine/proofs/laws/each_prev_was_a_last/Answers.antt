-- The lemma says it.
use Rattle.node_machine.proofs.Lasts.{prevs_shown}
use Rattle.node_machine.proofs.laws.each_prev_was_a_last.Goals as goal

pub returns : goal.returns
returns c = prevs_shown
