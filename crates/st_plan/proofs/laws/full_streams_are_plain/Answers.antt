-- In full streams each stamp counts one more than its process's clock, so no reason holds.
use Rattle.st_plan.proofs.Plainness.{full_streams_plain}
use Rattle.st_plan.proofs.laws.full_streams_are_plain.Goals as goal

pub returns : goal.returns
returns c = full_streams_plain
