-- The lemmas say it.
use Rattle.node_machine.proofs.Ways.{given_ways, ways_give}
use Rattle.node_machine.proofs.laws.four_ways_give_a_stamp.Goals as goal

pub returns : goal.returns
returns c = λ es e. (given_ways es e, ways_give es e)
