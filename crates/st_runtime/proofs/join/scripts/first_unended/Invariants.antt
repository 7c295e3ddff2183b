-- The scripts that were taken are all made.
use Rattle.st_runtime.specs.Joining.{AreEnded}
use Rattle.st_runtime.proofs.join.scripts.first_unended.Given as goal

abbrev pub invariant-loop-place : goal.invariant-loop-place
invariant-loop-place l = AreEnded l.made l.scripts l.place
