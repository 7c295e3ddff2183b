-- The key is that of the node at the place to which the loop has come back.
use Rattle.std.proofs.Common.{◌≡◌, ◌<◌, ◌≤◌}
use Rattle.slab.specs.Slab.{get}
use Rattle.st_arena.specs.Chain.{key_after}
use Rattle.st_arena.proofs.chain.key_from_last.Given as goal

abbrev pub invariant-loop-at : goal.invariant-loop-at
invariant-loop-at g l =
    (l.key ≡ key_after (get l.nodes) l.fn.ends.first l.at) × (l.place ≤ l.at)
    × (l.at < l.fn.ends.len)

abbrev pub decreases-loop-at : goal.decreases-loop-at
decreases-loop-at g l = l.at
