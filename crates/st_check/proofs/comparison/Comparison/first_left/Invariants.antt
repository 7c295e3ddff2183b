-- No process so far has events left.
use Rattle.st_check.specs.Progress.{NoneLeftBefore}
use Rattle.st_check.proofs.comparison.Comparison.first_left.Given as goal

abbrev pub invariant-loop-place : goal.invariant-loop-place
invariant-loop-place l = NoneLeftBefore l.streams l.self.counts.items l.place
