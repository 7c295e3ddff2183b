-- So far as many prints were added as the loop was run.
use Rattle.std.proofs.Common.{◌≡◌, ◌++◌}
use Rattle.st_plan.specs.Build.{silent_prints}
use Rattle.st_plan.proofs.plan.print_silently.Given as goal

abbrev pub invariant-loop : goal.invariant-loop
invariant-loop l = l.plan.items ≡ l.initial.plan.items ++ silent_prints l.pid l.counter
