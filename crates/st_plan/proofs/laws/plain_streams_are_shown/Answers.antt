-- The acts of the moves, in order, run from zero clocks and report what the streams tell, move by
-- move.
use Rattle.st_plan.proofs.PlainStreams.{plain_is_shown}
use Rattle.st_plan.proofs.laws.plain_streams_are_shown.Goals as goal

pub returns : goal.returns
returns c = plain_is_shown
