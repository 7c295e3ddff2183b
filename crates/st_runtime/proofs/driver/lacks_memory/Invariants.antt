-- None so far ran out of memory.
use Rattle.std.proofs.Common.{◌≢◌, Some, take}
use Rattle.std.specs.Prelude.{All}
use Rattle.st_runtime.specs.declared.fault.ActFault.TheVariants as fault
use Rattle.st_runtime.proofs.driver.lacks_memory.Given as goal

abbrev pub invariant-loop-end : goal.invariant-loop-end
invariant-loop-end l = All (λ end. end.fault ≢ Some fault.Memory) (take l.end-index l.ends)
