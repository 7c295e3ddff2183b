-- In accepted streams each stamp has a greater count than the stamp before it.
use Rattle.st_pair.proofs.AcceptedEvents.{paired}
use Rattle.st_pair.proofs.Converse.{stamp_counts_rise}
use Rattle.st_pair.proofs.laws.stamp_counts_rise.Goals as goal

pub returns : goal.returns
returns c = λ streams accepted. stamp_counts_rise streams (paired streams accepted)
