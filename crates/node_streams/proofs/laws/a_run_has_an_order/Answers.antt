-- The lemma says it.
use Rattle.node_streams.proofs.InRuns.{run_order}
use Rattle.node_streams.proofs.laws.a_run_has_an_order.Goals as goal

pub returns : goal.returns
returns c = run_order
