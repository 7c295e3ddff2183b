-- The processes taken so far tell their streams.
use Rattle.std.proofs.Common.{ℕ, ◌<◌}
use Rattle.lack_laws.specs.Silent.{with_silent}
use Rattle.lack_needs.proofs.ForCallers.{IsToldAt}
use Rattle.lack_decide.proofs.judge.tells_streams.Given as goal

abbrev pub invariant-loop-place : goal.invariant-loop-place
invariant-loop-place l = (k : ℕ) → k < l.place
    → IsToldAt l.all l.lists (with_silent l.streams l.unlisted) k
