-- The sends so far are hidden sends of the streams.
use Rattle.lack_search.specs.Sends.{AreSendsIn}
use Rattle.lack_search.proofs.hidden_sends.note_hidden.Given as goal

abbrev pub invariant-loop-index : goal.invariant-loop-index
invariant-loop-index l = AreSendsIn l.streams l.hidden.items
