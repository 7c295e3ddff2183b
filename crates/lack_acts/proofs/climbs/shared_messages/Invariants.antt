-- Each event put in is one of its process.
use Rattle.lack_acts.specs.Insertions.{AreInsertions}
use Rattle.lack_acts.proofs.climbs.shared_messages.Given as goal

abbrev pub invariant-loop-wish : goal.invariant-loop-wish
invariant-loop-wish l = AreInsertions l.fn.streams l.sharing.untold.items
