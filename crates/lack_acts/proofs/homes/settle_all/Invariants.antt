-- Each event put in is one of its process.
use Rattle.lack_acts.specs.Insertions.{AreInsertions}
use Rattle.lack_acts.proofs.homes.settle_all.Given as goal

abbrev pub invariant-loop-stray : goal.invariant-loop-stray
invariant-loop-stray l = AreInsertions l.fn.streams l.search.untold.items
