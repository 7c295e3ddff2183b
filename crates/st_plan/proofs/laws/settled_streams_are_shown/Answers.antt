-- The acts of the moves, in order, run from zero clocks and report what is told of each.
use Rattle.st_plan.proofs.SettledStreams.{settled_is_shown}
use Rattle.st_plan.proofs.laws.settled_streams_are_shown.Goals as goal

pub returns : goal.returns
returns c = settled_is_shown
