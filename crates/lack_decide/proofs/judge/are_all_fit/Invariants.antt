-- The events of the processes taken so far are fit.
use Rattle.lack_decide.proofs.Linked.{AllFit}
use Rattle.lack_decide.proofs.judge.are_all_fit.Given as goal

abbrev pub invariant-loop-place : goal.invariant-loop-place
invariant-loop-place l = AllFit l.top l.streams l.links l.place
