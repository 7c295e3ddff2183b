-- The claim holds for each kind of event.
use Rattle.node_hops.proofs.Claims.{hop_true}
use Rattle.node_hops.proofs.laws.hops_are_true.Goals as goal

pub returns : goal.returns
returns c = hop_true
