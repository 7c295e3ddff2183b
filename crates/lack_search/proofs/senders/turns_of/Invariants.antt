-- Each turn so far is that of a stamp without a message.
use Rattle.lack_search.specs.Senders.{AreTurnsOf}
use Rattle.lack_search.proofs.senders.turns_of.Given as goal

abbrev pub invariant-loop-number : goal.invariant-loop-number
invariant-loop-number l = AreTurnsOf l.fed l.turns.items
