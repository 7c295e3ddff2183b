-- The processes have the pids that the fresh ones had.
use Rattle.std.proofs.Common.{◌≡◌}
use Rattle.st_runtime.specs.Pieces.{pids_in}
use Rattle.st_runtime.proofs.system.take_processes.Given as goal

abbrev pub invariant-loop-i : goal.invariant-loop-i
invariant-loop-i g l = pids_in l.all.items ≡ pids_in l.initial.all.items
