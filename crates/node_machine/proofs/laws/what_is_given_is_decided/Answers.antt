-- The lemmas say it.
use Rattle.node_machine.proofs.Decided.{given_tests, test_gives}
use Rattle.node_machine.proofs.laws.what_is_given_is_decided.Goals as goal

pub returns : goal.returns
returns c = λ es e. (given_tests es e, test_gives es e)
