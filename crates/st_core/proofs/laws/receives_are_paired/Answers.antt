-- Along a run each queued message has a tag, so a receive that takes one has a pair.
use Rattle.st_core.proofs.Paired as paired
use Rattle.st_core.proofs.laws.receives_are_paired.Goals as goal

pub returns : goal.returns
returns c = paired.receives_are_paired
