-- An arena whose lists have no nodes is sound.
use Rattle.std.proofs.Common.{refl, ap}
use Rattle.std.specs.Prelude.{nat_eq}
use Rattle.std.specs.Map.{lookup}
use Rattle.st_arena.proofs.ArenaLemmas.{empty_sound, empty_lists}
use Rattle.st_arena.proofs.lists.Lists.new.Goals as goal

pub invariant_of-result : goal.invariant_of-result
invariant_of-result g c =
    rw (c.in_ok-ends.ensures.items_if_clones_equal (λ y e. e), c.new.ensures.empty) (
      empty_sound _ _ c.args.lists c.new.result.capacity refl,
      λ list. rw (ap (λ es. lookup (nat_eq list) es) c.new-2.ensures.empty) tt,
    )

pub returns-clause-empty : goal.returns-clause-empty
returns-clause-empty g c =
    rw (c.in_ok-ends.ensures.items_if_clones_equal (λ y e. e))
    (empty_lists _ _ c.args.lists refl)
