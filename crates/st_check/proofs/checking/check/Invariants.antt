-- The acts so far pass, and the state is that after them.
use Rattle.std.proofs.Common.{take}
use Rattle.st_check.specs.Progress.{IsPassedBy}
use Rattle.st_check.proofs.checking.check.Given as goal

abbrev pub invariant-loop-number : goal.invariant-loop-number
invariant-loop-number g l =
    IsPassedBy g.row.TOP l.streams (take l.number l.acts) l.progress.world l.progress.comparison
