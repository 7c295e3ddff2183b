-- Full completions have no need, and completions without a need are settled.
use Rattle.lack_laws.proofs.NeedlessStreams.{exactly_needless}
use Rattle.lack_laws.proofs.closed_world.shown_exactly_where_nothing_is_needed.Goals as goal

pub returns : goal.returns
returns c = exactly_needless
