-- Only one chain changed, so all lists are the old ones with that one replaced.
use Rattle.std.proofs.Common.{ap, sym, arith}
use Rattle.st_arena.proofs.ListLemmas.{get_past, get_held, ladder_is, take_sound, take_lists}
use Rattle.st_arena.proofs.ListLemmas.{take_chained, take_ladder, take_ladders}
use Rattle.st_arena.proofs.lists.Lists.take_at.Goals as goal

pub returns-then-place-ends-clause-value : goal.returns-then-place-ends-clause-value
returns-then-place-ends-clause-value g c =
    sym
    (get_past _ _ _ _ c.self.invariant.0 _ (ap (λ a. a.lists) c.self.view_is) c.args.list c.requires
    _
    c.index-ends.ensures c.args.place (omega arith))

pub find_key-key-requires-clause-ladder : goal.find_key-key-requires-clause-ladder
find_key-key-requires-clause-ladder g c =
    ladder_is _ _ _ _ c.self.invariant.0 _ (ap (λ a. a.lists) c.self.view_is) c.args.list c.requires
    _
    c.index-ends.ensures _ c.self.invariant.1

pub follow_take-requires-clause-chained : goal.follow_take-requires-clause-chained
follow_take-requires-clause-chained g c =
    take_chained _ _ _ _ c.self.invariant.0 _ (ap (λ a. a.lists) c.self.view_is) c.args.list
    c.requires _
    c.index-ends.ensures
    _ _ c.args.place _ _ c.unlink-value.ensures.unlinks (omega arith) c.find_key-key.ensures

pub follow_take-requires-clause-ladder : goal.follow_take-requires-clause-ladder
follow_take-requires-clause-ladder g c =
    take_ladder _ _ _ _ c.self.invariant.0 _ (ap (λ a. a.lists) c.self.view_is) c.args.list
    c.requires _
    c.index-ends.ensures
    _ _ c.args.place _ _ c.unlink-value.ensures.unlinks (omega arith) c.find_key-key.ensures _
    c.self.invariant.1

pub invariant_of-self : goal.invariant_of-self
invariant_of-self g c = (
  take_sound _ _ _ _ c.self.invariant.0 _ (ap (λ a. a.lists) c.self.view_is) c.args.list c.requires
      _
      c.index-ends.ensures
      _ _ c.args.place _ _ c.unlink-value.ensures.unlinks (omega arith) c.find_key-key.ensures _ _
      c.unlink-value.ensures.len (omega arith),
  take_ladders _ _ _ _ c.self.invariant.0 _ (ap (λ a. a.lists) c.self.view_is) c.args.list
      c.requires _
      c.index-ends.ensures
      _ _ c.args.place _ _ c.unlink-value.ensures.unlinks (omega arith) c.find_key-key.ensures _ _
      c.self.invariant.1
      c.follow_take.ensures,
)

pub returns-clause-value : goal.returns-clause-value
returns-clause-value g c =
    sym
    (get_held _ _ _ _ c.self.invariant.0 _ (ap (λ a. a.lists) c.self.view_is) c.args.list c.requires
    _
    c.index-ends.ensures c.args.place _ _ (omega arith) c.find_key-key.ensures
    c.unlink-value.ensures.unlinks.held)

pub returns-clause-taken : goal.returns-clause-taken
returns-clause-taken g c =
    take_lists _ _ _ _ c.self.invariant.0 _ (ap (λ a. a.lists) c.self.view_is) c.args.list
    c.requires _
    c.index-ends.ensures
    _ _ c.args.place _ _ c.unlink-value.ensures.unlinks (omega arith) c.find_key-key.ensures
