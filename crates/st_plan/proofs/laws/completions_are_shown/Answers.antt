-- The events told by places are those told by marks.
use Rattle.st_plan.proofs.Wholes.{completion_is_shown}
use Rattle.st_plan.proofs.laws.completions_are_shown.Goals as goal

pub returns : goal.returns
returns c = completion_is_shown
