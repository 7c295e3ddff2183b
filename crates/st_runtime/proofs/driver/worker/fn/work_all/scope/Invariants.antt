-- So far the promise of each worker is of its job in this system.
use Rattle.std.proofs.Common.{◌≡◌}
use Rattle.std.specs.List.{AllZip}
use Rattle.st_runtime.proofs.driver.worker.fn.work_all.scope.Given as goal

abbrev pub invariant-loop-job : goal.invariant-loop-job
invariant-loop-job g l =
    AllZip (λ job worker. (worker.promise.job.value ≡ job)
    × (worker.promise.system.value ≡ l.system.now))
    l.yielded l.workers.items
