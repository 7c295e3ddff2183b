-- So far these are the scripts of the endings that were taken.
use Rattle.std.proofs.Common.{◌≡◌, map}
use Rattle.st_runtime.proofs.driver.scripts_of.Given as goal

abbrev pub invariant-loop-end : goal.invariant-loop-end
invariant-loop-end l = l.scripts.items ≡ map (λ end. end.script) l.yielded
