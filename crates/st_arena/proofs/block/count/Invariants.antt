-- The sum so far is that of the marks passed.
use Rattle.std.proofs.Common.{◌≡◌, take}
use Rattle.std.specs.List.{sum}
use Rattle.st_arena.proofs.block.count.Given as goal

abbrev pub invariant-loop-mark : goal.invariant-loop-mark
invariant-loop-mark l = l.live ≡ sum (take l.mark-index l.marks)
