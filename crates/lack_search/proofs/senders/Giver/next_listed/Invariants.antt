-- The giver only moves on to the next stamp and the next listed process.
use Rattle.lack_search.specs.Senders.{KeepsStreams}
use Rattle.lack_search.proofs.senders.Giver.next_listed.Given as goal

abbrev pub invariant-loop-number : goal.invariant-loop-number
invariant-loop-number l = KeepsStreams l.fn.self l.self
