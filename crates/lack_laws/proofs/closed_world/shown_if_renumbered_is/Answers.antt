-- Putting the counts back gives the streams, and keeps the order of counts.
use Rattle.lack_laws.proofs.Ranks.{renumbered_shown}
use Rattle.lack_laws.proofs.closed_world.shown_if_renumbered_is.Goals as goal

pub returns : goal.returns
returns c = renumbered_shown
