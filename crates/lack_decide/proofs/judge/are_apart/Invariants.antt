-- The streams list no process taken so far.
use Rattle.std.proofs.Common.{◌≡◌, ℕ, ◌<◌, false, slice_get, Some}
use Rattle.st_core.specs.declared.types.Pid.{Pid}
use Rattle.st_core.specs.Streams.{lists}
use Rattle.lack_decide.proofs.judge.are_apart.Given as goal

abbrev pub invariant-loop-pid : goal.invariant-loop-pid
invariant-loop-pid l = (k : ℕ) (q : Pid) → k < l.pid-index → slice_get l.unlisted k ≡ Some q
    → lists l.streams q ≡ false
