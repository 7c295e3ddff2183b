-- If stamps lead, the keys of a process's events rise by index.
use Rattle.st_order.proofs.Turns.{keeps_turn}
use Rattle.st_order.proofs.laws.leading_stamps_keep_turn.Goals as goal

pub returns : goal.returns
returns c = keeps_turn
