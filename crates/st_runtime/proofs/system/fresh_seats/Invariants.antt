-- So far there is a seat for each pid that was taken, and room for the others.
use Rattle.std.proofs.Common.{◌≡◌, ◌≤◌, length, map, take, vec_len}
use Rattle.std.specs.Vec.{vec_capacity}
use Rattle.st_runtime.specs.Seat.{no_calls}
use Rattle.st_runtime.proofs.system.fresh_seats.Given as goal

abbrev pub invariant-loop-pid : goal.invariant-loop-pid
invariant-loop-pid l = (l.seats.items ≡ map no_calls (take l.pid-index l.pids))
    × (vec_len l.seats ≡ l.pid-index)
    × (length l.pids ≤ vec_capacity l.seats)
