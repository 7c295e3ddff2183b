-- The lemma says it.
use Rattle.lack_pieces.proofs.Verdicts.{law}
use Rattle.lack_pieces.proofs.laws.reasons_are_those_of_pieces.Goals as goal

pub returns : goal.returns
returns c = λ top streams pieces sound are. law top streams pieces sound are
