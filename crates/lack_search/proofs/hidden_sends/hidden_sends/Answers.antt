-- Sorting only moves the sends.
use Rattle.std.proofs.lemmas.List.Sorted.{All-permutation}
use Rattle.lack_search.specs.Sends.{IsSendIn}
use Rattle.lack_search.proofs.hidden_sends.hidden_sends.Goals as goal

pub returns : goal.returns
returns c = All-permutation (IsSendIn c.args.streams.now) c.loop-pid.hidden.items
    c.sort_unstable_by_key.new.self.items c.sort_unstable_by_key.ensures.permutation
    c.loop-pid.invariant
