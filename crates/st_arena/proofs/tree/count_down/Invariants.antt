-- All sums hold, except that `node` counts one more than its children.
use Rattle.std.proofs.Common.{◌≡◌, ◌<◌, length}
use Rattle.st_arena.specs.Tree.{count_at, IsAllBut, IsStill}
use Rattle.st_arena.proofs.tree.count_down.Given as goal

abbrev pub invariant-loop-node : goal.invariant-loop-node
invariant-loop-node l =
    IsAllBut (count_at l.counts) l.fn.height l.node
    × (length l.counts ≡ length l.fn.counts)
    × (l.node < length l.counts)
    × IsStill (count_at l.fn.counts) (count_at l.counts) l.fn.size l.fn.block l.node

abbrev pub decreases-loop-node : goal.decreases-loop-node
decreases-loop-node l = l.node
