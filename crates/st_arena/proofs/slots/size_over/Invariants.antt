-- Each doubling adds a level, so the size stays the number of leaves.
use Rattle.std.proofs.Common.{◌≡◌, ◌-◌, ◌<◌, ◌≤◌, ◌^◌}
use Rattle.st_arena.specs.Tree.{wide}
use Rattle.st_arena.proofs.slots.size_over.Given as goal

abbrev pub invariant-loop-size : goal.invariant-loop-size
invariant-loop-size l = (l.size ≡ wide l.height) × (l.height < l.size) × (l.size ≤ 2 ^ 53)

abbrev pub decreases-loop-size : goal.decreases-loop-size
decreases-loop-size l = l.blocks - l.size
