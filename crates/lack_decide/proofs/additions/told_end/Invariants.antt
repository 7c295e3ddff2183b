-- No mark taken so far is set from `end` on.
use Rattle.std.proofs.Common.{◌≡◌, ℕ, ◌<◌, ◌≤◌, false, get_or}
use Rattle.lack_decide.proofs.additions.told_end.Given as goal

abbrev pub invariant-loop-i : goal.invariant-loop-i
invariant-loop-i l = (k : ℕ) → l.end ≤ k → k < l.i → get_or l.marks k false ≡ false
