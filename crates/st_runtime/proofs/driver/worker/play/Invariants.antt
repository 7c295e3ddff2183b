-- The acts that were made are the process's own.
use Rattle.std.proofs.Common.{take}
use Rattle.std.specs.Prelude.{All}
use Rattle.st_runtime.specs.Driven.{IsOwn}
use Rattle.st_runtime.proofs.driver.worker.play.Given as goal

abbrev pub invariant-loop-n : goal.invariant-loop-n
invariant-loop-n g l = All (IsOwn l.system l.pid) (take l.n l.script)
