-- No stamp so far has an invented message, since a new one has none.
use Rattle.lack_search.specs.Asks.{AreGivenLost}
use Rattle.lack_search.proofs.asks.Asks.of.Given as goal

abbrev pub invariant-loop-pid : goal.invariant-loop-pid
invariant-loop-pid l = AreGivenLost l.asks
