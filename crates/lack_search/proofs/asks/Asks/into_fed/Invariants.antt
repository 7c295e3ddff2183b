-- The needs had no invented message, nor has a beginning that is added.
use Rattle.std.specs.List.{All}
use Rattle.lack_search.specs.Asks.{HasNoInvention}
use Rattle.lack_search.proofs.asks.Asks.into_fed.Given as goal

abbrev pub invariant-loop-ask : goal.invariant-loop-ask
invariant-loop-ask l = All HasNoInvention l.fed.items
