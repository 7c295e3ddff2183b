-- No reason holds of a run's streams, and streams without a reason have a completion.
use Rattle.lack_laws.proofs.OpenReasons.{open_decides}
use Rattle.lack_laws.proofs.open_world.open_reasons_decide.Goals as goal

pub returns : goal.returns
returns c = open_decides
