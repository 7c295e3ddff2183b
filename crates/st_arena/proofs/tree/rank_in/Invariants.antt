-- The sum so far and the counts before `place` on its level add up to the live slots before the
-- block.
use Rattle.std.proofs.Common.{◌≡◌, ◌+◌, ◌<◌, ◌≤◌}
use Rattle.st_arena.specs.Tree.{count_at, sums, wide}
use Rattle.st_arena.proofs.tree.rank_in.Given as goal

abbrev pub invariant-loop-level : goal.invariant-loop-level
invariant-loop-level l =
    (l.sum + sums (count_at l.counts) l.start l.place
    ≡ sums (count_at l.counts) l.fn.size l.fn.block)
    × (l.start ≡ wide l.level)
    × (l.place < l.start)
    × (l.level ≤ l.fn.height)

abbrev pub decreases-loop-level : goal.decreases-loop-level
decreases-loop-level l = l.level
