-- The slab has each node of the walk, since the walk stays within the list.
use Rattle.std.proofs.Common.{arith}
use Rattle.st_arena.proofs.ChainLemmas.{held_after}
use Rattle.st_arena.proofs.chain.key_from_first.Goals as goal

pub index-requires : goal.index-requires
index-requires g c = rw c.loop.invariant
    (held_after _ _ c.requires.chained c.loop.counter (omega arith))
