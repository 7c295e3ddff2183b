-- No seat that was taken is of the pid.
use Rattle.std.proofs.Common.{◌≡◌, drop}
use Rattle.st_runtime.specs.Pieces.{seats_at}
use Rattle.st_runtime.proofs.join.seating.has_only_seat.Given as goal

abbrev pub invariant-loop-place : goal.invariant-loop-place
invariant-loop-place l = seats_at l.seats l.pid ≡ seats_at (drop l.place l.seats) l.pid
