-- No reason holds of the streams of a run without a reset.
use Rattle.lack_laws.proofs.OpenReasons.{shown_with_none}
use Rattle.lack_laws.proofs.open_world.shown_with_others_only_without_a_reason.Goals as goal

pub returns : goal.returns
returns c = shown_with_none
