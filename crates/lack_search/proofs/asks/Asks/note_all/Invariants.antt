-- No stamp so far has an invented message, since a new one has none.
use Rattle.lack_search.specs.Asks.{AreGivenLost}
use Rattle.lack_search.specs.MergedEvents.{events_left}
use Rattle.lack_search.proofs.asks.Asks.note_all.Given as goal

abbrev pub invariant-loop-next : goal.invariant-loop-next
invariant-loop-next l = AreGivenLost l.self

abbrev pub decreases-loop-next : goal.decreases-loop-next
decreases-loop-next l = events_left l.events
