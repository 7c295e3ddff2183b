-- The set has the pids passed, in their order.
use Rattle.std.proofs.Common.{◌≡◌, take}
use Rattle.st_world.proofs.numbers.set_of.Given as goal

abbrev pub invariant-loop-pid : goal.invariant-loop-pid
invariant-loop-pid l = l.set.keys ≡ take l.pid-index l.pids
