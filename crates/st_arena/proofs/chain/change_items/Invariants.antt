-- As many items are changed as the loop has passed, and the key is that of the next node.
use Rattle.std.proofs.Common.{◌≡◌}
use Rattle.std.specs.Fn.{FnReturnsAt}
use Rattle.slab.specs.Slab.{get, slab_len}
use Rattle.st_arena.specs.Chain.{key_after, ChangesItems}
use Rattle.st_arena.proofs.chain.change_items.Given as goal

abbrev pub invariant-loop : goal.invariant-loop
invariant-loop g l =
    (l.key ≡ key_after (get l.fn.nodes) l.fn.ends.first l.counter)
    × ChangesItems (get l.fn.nodes) (get l.nodes) (FnReturnsAt g.F.Fn l.change) l.fn.ends.first
    l.counter
    × (slab_len l.nodes ≡ slab_len l.fn.nodes)
    × (l.nodes.capacity ≡ l.fn.nodes.capacity)
