-- No act of an item is a reset.
use Rattle.st_plan.proofs.OneTrace.{no_reset}
use Rattle.st_plan.proofs.laws.constructions_have_no_reset.Goals as goal

pub returns : goal.returns
returns c = no_reset
