-- The key is that of the node as many steps after the first as the loop has passed.
use Rattle.std.proofs.Common.{◌≡◌}
use Rattle.slab.specs.Slab.{get}
use Rattle.st_arena.specs.Chain.{key_after}
use Rattle.st_arena.proofs.chain.key_from_first.Given as goal

abbrev pub invariant-loop : goal.invariant-loop
invariant-loop g l = l.key ≡ key_after (get l.nodes) l.fn.ends.first l.counter
