-- So far there is a job for each pair.
use Rattle.std.proofs.Common.{◌≡◌, map}
use Rattle.st_runtime.proofs.driver.worker.jobs_of.Given as goal

abbrev pub invariant-loop-pid : goal.invariant-loop-pid
invariant-loop-pid l = l.jobs.items ≡ map (λ x. (x.0.now, x.1)) l.yielded
