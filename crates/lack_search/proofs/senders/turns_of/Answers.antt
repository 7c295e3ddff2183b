-- Sorting only moves the turns.
use Rattle.std.proofs.lemmas.List.Sorted.{All-permutation}
use Rattle.lack_search.specs.Senders.{IsTurnOf}
use Rattle.lack_search.proofs.senders.turns_of.Goals as goal

pub returns : goal.returns
returns c = All-permutation (IsTurnOf c.args.fed.now) c.loop-number.turns.items
    c.sort_by_key.new.self.items c.in_ok-sort_by_key.ensures.permutation c.loop-number.invariant
