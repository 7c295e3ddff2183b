-- The lemma says it.
use Rattle.node_streams.proofs.InRuns.{all_sent}
use Rattle.node_streams.proofs.laws.reported_sends_leave_nothing_unsent.Goals as goal

pub returns : goal.returns
returns c = all_sent
