-- The lemma says it.
use Rattle.node_machine.proofs.BySends.{origins_by_sends}
use Rattle.node_machine.proofs.laws.a_token_comes_from_what_sends_allow.Goals as goal

pub returns : goal.returns
returns c = origins_by_sends
