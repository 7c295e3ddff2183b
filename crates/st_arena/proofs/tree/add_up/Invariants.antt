-- The nodes from `node` on count the sums of their children, and the leaves are unchanged.
use Rattle.std.proofs.Common.{◌≡◌, ◌<◌, ◌≤◌, length, drop}
use Rattle.st_arena.specs.Tree.{count_at, AddsUpFrom}
use Rattle.st_arena.proofs.tree.add_up.Given as goal

abbrev pub invariant-loop-node : goal.invariant-loop-node
invariant-loop-node l =
    AddsUpFrom (count_at l.counts) l.node l.fn.size
    × (length l.counts ≡ length l.fn.counts)
    × (0 < l.node)
    × (l.node ≤ l.fn.size)
    × (drop l.fn.size l.counts ≡ drop l.fn.size l.fn.counts)

abbrev pub decreases-loop-node : goal.decreases-loop-node
decreases-loop-node l = l.node
