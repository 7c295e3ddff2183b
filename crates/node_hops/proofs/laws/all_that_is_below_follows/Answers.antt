-- The lemma says it.
use Rattle.node_hops.proofs.Children.{all_lead}
use Rattle.node_hops.proofs.laws.all_that_is_below_follows.Goals as goal

pub returns : goal.returns
returns c = all_lead
