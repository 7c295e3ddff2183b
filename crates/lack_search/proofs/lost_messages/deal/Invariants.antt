-- Stamps get lost messages, never invented ones, and the search stays within the messages.
use Rattle.std.proofs.Common.{◌≤◌, length}
use Rattle.std.specs.List.{All}
use Rattle.lack_search.specs.Asks.{HasNoInvention}
use Rattle.lack_search.proofs.lost_messages.deal.Given as goal

abbrev pub invariant-loop-ask : goal.invariant-loop-ask
invariant-loop-ask l = record {
  asks : All HasNoInvention l.asks;
  next : l.next ≤ length l.lost;
}
