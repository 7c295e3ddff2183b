-- Only one list changed, so all lists are the old ones with that one replaced.
use Rattle.std.proofs.Common.{ap}
use Rattle.st_arena.proofs.ListLemmas.{changed_sound, changed_ladders, changed_lists, changed_each}
use Rattle.st_arena.proofs.ListLemmas.{changed_mapped}
use Rattle.st_arena.proofs.lists.Lists.change_all.Goals as goal

pub invariant_of-self : goal.invariant_of-self
invariant_of-self g c = (
  changed_sound _ _ _ _ c.self.invariant.0 _ (ap (λ a. a.lists) c.self.view_is) c.args.list
      c.requires.in_range _
      c.index.ensures
      _ _ c.change_items.ensures.changed _ _ c.change_items.ensures.len
      c.change_items.ensures.capacity,
  changed_ladders _ _ _ _ c.self.invariant.0 _ (ap (λ a. a.lists) c.self.view_is) c.args.list
      c.requires.in_range _
      c.index.ensures
      _ _ c.change_items.ensures.changed _ c.self.invariant.1,
)

pub returns-clause-others_stay : goal.returns-clause-others_stay
returns-clause-others_stay g c =
    changed_lists _ _ _ _ c.self.invariant.0 _ (ap (λ a. a.lists) c.self.view_is) c.args.list
    c.requires.in_range _
    c.index.ensures
    _ _ c.change_items.ensures.changed

pub returns-clause-changed : goal.returns-clause-changed
returns-clause-changed g c =
    changed_each _ _ _ _ c.self.invariant.0 _ (ap (λ a. a.lists) c.self.view_is) c.args.list
    c.requires.in_range _
    c.index.ensures
    _ _ c.change_items.ensures.changed

pub returns-clause-mapped : goal.returns-clause-mapped
returns-clause-mapped g c =
    changed_mapped _ _ _ _ c.self.invariant.0 _ (ap (λ a. a.lists) c.self.view_is) c.args.list
    c.requires.in_range _
    c.index.ensures
    _ _ c.change_items.ensures.changed
