-- If every stamp was reported, the stamp that a receive names is an event of its sender.
use Rattle.st_pair.proofs.FullyShown.{send_shown}
use Rattle.st_pair.proofs.laws.fully_shown_sends_are_events.Goals as goal

pub returns : goal.returns
returns c = send_shown
