-- The least pid so far isn't seated, and each process that was taken below it is.
use Rattle.std.proofs.Common.{take}
use Rattle.st_runtime.specs.Joining.{IsLeastUnseated}
use Rattle.st_runtime.specs.Pcb.{Control}
use Rattle.st_runtime.proofs.join.seating.least_of_logs.Given as goal

abbrev pub invariant-loop-process : goal.invariant-loop-process
invariant-loop-process g l =
    IsLeastUnseated (λ (x : Control). x.process.pid)
    (record { processes = l.processes; seats = l.seats })
    (take l.process-index l.processes) l.least
