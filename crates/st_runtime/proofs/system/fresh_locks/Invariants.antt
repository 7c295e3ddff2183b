-- So far there are as many locks as pids, and room for the others.
use Rattle.std.proofs.Common.{◌≡◌, ◌≤◌, length, vec_len}
use Rattle.std.specs.Vec.{vec_capacity}
use Rattle.st_runtime.proofs.system.fresh_locks.Given as goal

abbrev pub invariant-loop-i : goal.invariant-loop-i
invariant-loop-i g l = (vec_len l.locks ≡ l.i) × (length l.pids ≤ vec_capacity l.locks)
