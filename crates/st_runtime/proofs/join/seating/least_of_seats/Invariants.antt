-- The least pid so far isn't seated, and each seat that was taken below it is.
use Rattle.std.proofs.Common.{take}
use Rattle.st_runtime.specs.Joining.{IsLeastUnseated}
use Rattle.st_runtime.specs.Pcb.{Control}
use Rattle.st_runtime.specs.Seat.{Calls}
use Rattle.st_runtime.proofs.join.seating.least_of_seats.Given as goal

abbrev pub invariant-loop-seat : goal.invariant-loop-seat
invariant-loop-seat g l =
    IsLeastUnseated (λ (x : Control). x.process.pid)
    (record { processes = l.processes; seats = l.seats })
    l.processes l.least
    × IsLeastUnseated (λ (s : Calls). s.pid) (record { processes = l.processes; seats = l.seats })
    (take l.seat-index l.seats) l.least
