-- The draft has the processes taken so far.
use Rattle.std.proofs.Common.{◌≡◌, take}
use Rattle.lack_laws.specs.Silent.{with_silent}
use Rattle.lack_needs.proofs.silent.with_silent.Given as goal

abbrev pub invariant-loop-pid : goal.invariant-loop-pid
invariant-loop-pid l = l.draft ≡ take l.pid-index (with_silent l.fn.streams l.fn.others)
