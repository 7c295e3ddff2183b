-- A send with another place is still a send of the streams.
use Rattle.lack_search.specs.Sends.{AreSendsIn}
use Rattle.lack_search.proofs.walk.place_hidden.Given as goal

abbrev pub invariant-loop-number : goal.invariant-loop-number
invariant-loop-number l = AreSendsIn l.streams l.hidden
