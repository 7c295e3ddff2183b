-- A send's report and its message have the same token.
use Rattle.st_core.proofs.Clocks as clocks
use Rattle.st_core.proofs.laws.reported_sends_agree.Goals as goal

pub returns : goal.returns
returns c = clocks.reported_sends_agree
