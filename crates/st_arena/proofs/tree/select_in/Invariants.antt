-- The slot wanted is below the node: `left` of the live slots before the slot are there too, and
-- the others are before the node.
use Rattle.std.proofs.Common.{◌≡◌, ◌+◌, ◌-◌, ◌<◌, ◌≤◌}
use Rattle.st_arena.specs.Tree.{count_at, sums, wide}
use Rattle.st_arena.proofs.tree.select_in.Given as goal

abbrev pub invariant-loop-level : goal.invariant-loop-level
invariant-loop-level l =
    (l.left + sums (count_at l.counts) l.start l.place ≡ l.fn.wanted)
    × (l.left < count_at l.counts (l.start + l.place))
    × (l.start ≡ wide l.level)
    × (l.place < l.start)
    × (l.level ≤ l.fn.height)

abbrev pub decreases-loop-level : goal.decreases-loop-level
decreases-loop-level l = l.height - l.level
