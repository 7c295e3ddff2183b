-- Only one chain changed, so all lists are the old ones with that one replaced.
use Rattle.std.proofs.Common.{ap, arith}
use Rattle.st_arena.proofs.ListLemmas.{last_there, push_sound, push_lists, push_chained}
use Rattle.st_arena.proofs.ListLemmas.{push_ladder, push_ladders}
use Rattle.st_arena.proofs.lists.Lists.push_reserved.Goals as goal

pub append-ends-requires-clause-last : goal.append-ends-requires-clause-last
append-ends-requires-clause-last g c =
    last_there _ _ _ _ c.self.invariant.0 _ (ap (λ a. a.lists) c.self.view_is) c.args.list
    c.requires.in_range _
    c.index.ensures

pub follow_push-requires-clause-chained : goal.follow_push-requires-clause-chained
follow_push-requires-clause-chained g c =
    push_chained _ _ _ _ c.self.invariant.0 _ (ap (λ a. a.lists) c.self.view_is) c.args.list
    c.requires.in_range _
    c.index.ensures
    _ _ _ c.append-ends.ensures.appends

pub follow_push-requires-clause-ladder : goal.follow_push-requires-clause-ladder
follow_push-requires-clause-ladder g c =
    push_ladder _ _ _ _ c.self.invariant.0 _ (ap (λ a. a.lists) c.self.view_is) c.args.list
    c.requires.in_range _
    c.index.ensures
    _ _ _ c.append-ends.ensures.appends _ c.self.invariant.1

pub invariant_of-self : goal.invariant_of-self
invariant_of-self g c =
    let spare = ap (λ a. a.spare) c.self.view_is in (
      push_sound _ _ _ _ c.self.invariant.0 _ (ap (λ a. a.lists) c.self.view_is) c.args.list
          c.requires.in_range _
          c.index.ensures
          _ _ _ c.append-ends.ensures.appends _ _ c.append-ends.ensures.len
          (omega (
            arith,
            c.append-ends.ensures.len,
            c.append-ends.ensures.capacity,
            spare,
            c.requires.room,
          )),
      push_ladders _ _ _ _ c.self.invariant.0 _ (ap (λ a. a.lists) c.self.view_is) c.args.list
          c.requires.in_range _
          c.index.ensures
          _ _ _ c.append-ends.ensures.appends _ _ c.self.invariant.1 c.follow_push.ensures,
    )

pub returns-clause-pushed : goal.returns-clause-pushed
returns-clause-pushed g c =
    push_lists _ _ _ _ c.self.invariant.0 _ (ap (λ a. a.lists) c.self.view_is) c.args.list
    c.requires.in_range _
    c.index.ensures
    _ _ _ c.append-ends.ensures.appends
