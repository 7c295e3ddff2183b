-- The sends so far are hidden sends of the streams.
use Rattle.lack_search.specs.Sends.{AreSendsIn}
use Rattle.lack_search.proofs.hidden_sends.hidden_sends.Given as goal

abbrev pub invariant-loop-pid : goal.invariant-loop-pid
invariant-loop-pid l = AreSendsIn l.streams l.hidden.items
