-- The live slots passed and those left to pass make up the number wanted.
use Rattle.std.proofs.Common.{◌≡◌, ◌+◌, ◌-◌, ◌≤◌, length, take}
use Rattle.std.specs.List.{sum}
use Rattle.st_arena.proofs.block.place_of.Given as goal

abbrev pub invariant-loop-left : goal.invariant-loop-left
invariant-loop-left l = (l.left + sum (take l.place l.marks) ≡ l.fn.wanted)
    × (l.place ≤ length l.marks)

abbrev pub decreases-loop-left : goal.decreases-loop-left
decreases-loop-left l = length l.marks - l.place
