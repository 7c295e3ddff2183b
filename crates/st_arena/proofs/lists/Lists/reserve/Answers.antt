-- A slab that grows keeps its slots.
use Rattle.st_arena.proofs.ArenaLemmas.{more_room}
use Rattle.st_arena.proofs.lists.Lists.reserve.Goals as goal

pub invariant_of-self : goal.invariant_of-self
invariant_of-self g c =
    rw c.reserve.ensures.rest_kept
    (more_room _ _ _ _ c.self.invariant.0 _ c.reserve.ensures.capacity, c.self.invariant.1)
