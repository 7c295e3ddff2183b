-- Each row so far is that of a new process.
use Rattle.std.proofs.Common.{◌≡◌, replicate}
use Rattle.st_core.specs.State.{zero_local}
use Rattle.st_world.proofs.rows.zeros.Given as goal

abbrev pub invariant-loop : goal.invariant-loop
invariant-loop g l = l.locals.items ≡ replicate l.counter zero_local
