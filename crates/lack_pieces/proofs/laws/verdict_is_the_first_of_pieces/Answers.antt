-- The lemma says it.
use Rattle.lack_pieces.proofs.Verdicts.{verdict}
use Rattle.lack_pieces.proofs.laws.verdict_is_the_first_of_pieces.Goals as goal

pub returns : goal.returns
returns c = λ top streams pieces verdicts first sound are judged.
    verdict top streams pieces sound are verdicts judged first
