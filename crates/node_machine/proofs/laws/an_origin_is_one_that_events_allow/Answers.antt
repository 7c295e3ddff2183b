-- The lemma says it.
use Rattle.node_machine.proofs.Follows.{origins_can}
use Rattle.node_machine.proofs.laws.an_origin_is_one_that_events_allow.Goals as goal

pub returns : goal.returns
returns c = origins_can
