-- No process so far has events left.
use Rattle.node_check.specs.Progress.{NoneIsLeftBefore}
use Rattle.node_check.proofs.progress.Progress.first_left.Given as goal

abbrev pub invariant-loop-place : goal.invariant-loop-place
invariant-loop-place l = NoneIsLeftBefore l.streams l.self.counts.items l.place
