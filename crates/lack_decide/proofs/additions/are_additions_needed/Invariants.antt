-- Each addition to the processes taken so far is needed.
use Rattle.lack_decide.proofs.NeededAdditions.{AllNeeded}
use Rattle.lack_decide.proofs.additions.are_additions_needed.Given as goal

abbrev pub invariant-loop-place : goal.invariant-loop-place
invariant-loop-place l = AllNeeded l.streams l.lists l.place
