-- So far there is a process of each pid that was taken, and room for the others.
use Rattle.std.proofs.Common.{◌≡◌, ◌≤◌, length, take, vec_len}
use Rattle.std.specs.Vec.{vec_capacity}
use Rattle.st_runtime.specs.Pieces.{pids_in}
use Rattle.st_runtime.proofs.system.fresh_processes.Given as goal

abbrev pub invariant-loop-pid : goal.invariant-loop-pid
invariant-loop-pid g l = (pids_in l.all.items ≡ take l.pid-index l.pids)
    × (vec_len l.all ≡ l.pid-index)
    × (length l.pids ≤ vec_capacity l.all)
