-- A run that reports everything has full streams, and full streams are plain.
use Rattle.st_plan.proofs.Plainness.{full_plain}
use Rattle.st_plan.proofs.laws.full_runs_are_plain.Goals as goal

pub returns : goal.returns
returns c = full_plain
