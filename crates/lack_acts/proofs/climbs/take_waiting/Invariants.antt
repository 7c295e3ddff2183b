-- Each event put in is one of its process.
use Rattle.lack_acts.specs.Insertions.{AreInsertions}
use Rattle.lack_acts.proofs.climbs.take_waiting.Given as goal

abbrev pub invariant-loop-gap : goal.invariant-loop-gap
invariant-loop-gap l = AreInsertions l.fn.streams l.untold.items
