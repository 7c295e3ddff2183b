-- Along a run the tags name the send of each queued message.
use Rattle.st_core.proofs.Following as following
use Rattle.st_core.proofs.laws.receives_follow.Goals as goal

pub returns : goal.returns
returns c = following.receives_follow
