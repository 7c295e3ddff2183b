-- `FinalReasons` shows of each reason that no acts without a reset show the streams.
use Rattle.st_pair.proofs.FinalReasons.{refused_never_shown}
use Rattle.st_pair.proofs.laws.refusals_are_final_without_reset.Goals as goal

pub returns : goal.returns
returns c = refused_never_shown
