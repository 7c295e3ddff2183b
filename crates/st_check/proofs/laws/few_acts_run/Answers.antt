-- No clock is above the number of acts.
use Rattle.st_check.proofs.FewActs as few
use Rattle.st_check.proofs.laws.few_acts_run.Goals as goal

pub returns : goal.returns
returns c = few.few_acts_run
