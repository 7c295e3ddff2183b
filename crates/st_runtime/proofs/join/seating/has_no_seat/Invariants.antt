-- No seat that was taken is of the pid.
use Rattle.std.proofs.Common.{◌≡◌, drop}
use Rattle.st_runtime.specs.Pieces.{seats_at}
use Rattle.st_runtime.proofs.join.seating.has_no_seat.Given as goal

abbrev pub invariant-loop-seat : goal.invariant-loop-seat
invariant-loop-seat l = seats_at l.seats l.pid ≡ seats_at (drop l.seat-index l.seats) l.pid
