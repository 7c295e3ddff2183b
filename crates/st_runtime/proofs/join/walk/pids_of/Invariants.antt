-- So far these are the pids of the processes that were taken, and there is room for the others.
use Rattle.std.proofs.Common.{◌≡◌, ◌≤◌, length, take, vec_len}
use Rattle.std.specs.Vec.{vec_capacity}
use Rattle.st_runtime.specs.Pieces.{pids_in}
use Rattle.st_runtime.proofs.join.walk.pids_of.Given as goal

abbrev pub invariant-loop-process : goal.invariant-loop-process
invariant-loop-process g l = (l.pids.items ≡ pids_in (take l.process-index l.processes))
    × (vec_len l.pids ≡ l.process-index)
    × (length l.processes ≤ vec_capacity l.pids)
