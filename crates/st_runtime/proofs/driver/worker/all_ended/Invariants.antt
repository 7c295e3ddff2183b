-- So far each of them ended by itself.
use Rattle.std.proofs.Common.{◌≡◌, map, Some}
use Rattle.st_runtime.proofs.driver.worker.all_ended.Given as goal

abbrev pub invariant-loop-end : goal.invariant-loop-end
invariant-loop-end l = map (λ end. Some end) l.ends.items ≡ l.yielded
