-- By induction over the run, from what a send does to its process's clock.
use Rattle.st_core.proofs.Clocks as clocks
use Rattle.st_core.proofs.laws.followed_sends_lift_clocks.Goals as goal

pub returns : goal.returns
returns c = λ top pids acts os h none r s follows. clocks.followed_sends_lift top pids acts os h r s
    follows none
