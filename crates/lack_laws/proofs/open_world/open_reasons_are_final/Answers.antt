-- No reason holds of streams that a run without a reset shows, with or without the added
-- processes.
use Rattle.lack_laws.proofs.OpenReasons.{open_final}
use Rattle.lack_laws.proofs.open_world.open_reasons_are_final.Goals as goal

pub returns : goal.returns
returns c = open_final
