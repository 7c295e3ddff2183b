-- The node under the key that `find_key` returns holds the item at the place.
use Rattle.std.proofs.Common.{ap, sym, arith}
use Rattle.st_arena.proofs.ChainLemmas.{held_after}
use Rattle.st_arena.proofs.ListLemmas.{chained, get_past, get_at, ladder_is}
use Rattle.st_arena.proofs.lists.Lists.get.Goals as goal

pub returns-then-place-ends : goal.returns-then-place-ends
returns-then-place-ends g c =
    sym
    (get_past _ _ _ _ c.self.invariant.0 _ (ap (λ a. a.lists) c.self.view_is) c.args.list c.requires
    _
    c.index-ends.ensures c.args.place (omega arith))

pub find_key-key-requires-clause-chained : goal.find_key-key-requires-clause-chained
find_key-key-requires-clause-chained g c =
    chained _ _ _ _ c.self.invariant.0 _ (ap (λ a. a.lists) c.self.view_is) c.args.list c.requires _
    c.index-ends.ensures

pub find_key-key-requires-clause-ladder : goal.find_key-key-requires-clause-ladder
find_key-key-requires-clause-ladder g c =
    ladder_is _ _ _ _ c.self.invariant.0 _ (ap (λ a. a.lists) c.self.view_is) c.args.list c.requires
    _
    c.index-ends.ensures _ c.self.invariant.1

pub index-requires : goal.index-requires
index-requires g c =
    rw c.find_key-key.ensures
    (held_after _ _
    (chained _ _ _ _ c.self.invariant.0 _ (ap (λ a. a.lists) c.self.view_is) c.args.list c.requires
    _
    c.index-ends.ensures)
    c.args.place (omega arith))

pub returns : goal.returns
returns g c =
    sym
    (get_at _ _ _ _ c.self.invariant.0 _ (ap (λ a. a.lists) c.self.view_is) c.args.list c.requires _
    c.index-ends.ensures c.args.place _ _ (omega arith) c.find_key-key.ensures c.index.ensures)
