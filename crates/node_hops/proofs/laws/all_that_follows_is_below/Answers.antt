-- The lemma says it.
use Rattle.node_hops.proofs.Children.{all_below}
use Rattle.node_hops.proofs.laws.all_that_follows_is_below.Goals as goal

pub returns : goal.returns
returns c = all_below
