-- The unlisted processes are those that were given out, sorted.
use Rattle.std.proofs.Common.{◌≡◌, false}
use Rattle.std.proofs.lemmas.List.Sorted.{All-permutation}
use Rattle.st_core.specs.Streams.{lists}
use Rattle.lack_search.proofs.senders.find_senders.Goals as goal

pub returns-clause-unlisted : goal.returns-clause-unlisted
returns-clause-unlisted c =
    All-permutation (λ p. lists c.args.streams.now p ≡ false)
    c.take_turns.new.giver.unlisted.pids.items c.in_ok-unlisted.unlisted.items
    c.in_ok-unlisted.ensures c.take_turns.ensures.unlisted
