-- The lemma says it.
use Rattle.node_streams.proofs.FullSends.{sends_of_all}
use Rattle.node_streams.proofs.laws.reports_of_all_have_each_send.Goals as goal

pub returns : goal.returns
returns c = sends_of_all
