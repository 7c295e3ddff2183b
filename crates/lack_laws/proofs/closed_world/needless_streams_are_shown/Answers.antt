-- Streams in which nothing is needed are their own completion.
use Rattle.lack_laws.proofs.NeedlessStreams.{needless_streams_shown}
use Rattle.lack_laws.proofs.closed_world.needless_streams_are_shown.Goals as goal

pub returns : goal.returns
returns c = needless_streams_shown
