-- Each act has a step, which leaves the pids.
use Rattle.node_check.proofs.ListedActs as listed
use Rattle.node_check.proofs.laws.listed_acts_run.Goals as goal

pub returns : goal.returns
returns c = listed.listed_acts_run
