-- Sorting only moves the stamps.
use Rattle.std.proofs.Common.{All, sym, subst}
use Rattle.std.proofs.lemmas.List.Sorted.{All-permutation}
use Rattle.lack_search.specs.Asks.{HasNoInvention}
use Rattle.lack_search.proofs.lost_messages.give.Goals as goal

pub deal-requires : goal.deal-requires
deal-requires c =
    subst (All HasNoInvention) (sym c.deref_mut.ensures.value)
    (All-permutation HasNoInvention c.args.asks.now.items c.sort_by_key.new.self.items
    c.in_ok-sort_by_key.ensures.permutation c.requires)
