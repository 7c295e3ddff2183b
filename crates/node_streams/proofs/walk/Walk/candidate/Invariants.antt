-- Only the candidates change.
use Rattle.std.proofs.Common.{◌≡◌, length}
use Rattle.node_streams.proofs.walk.Walk.candidate.Given as goal

abbrev pub invariant-loop-place : goal.invariant-loop-place
invariant-loop-place l = l.self.done ≡ l.fn.self.done

abbrev pub decreases-loop-place : goal.decreases-loop-place
decreases-loop-place l = length l.self.candidates.items
