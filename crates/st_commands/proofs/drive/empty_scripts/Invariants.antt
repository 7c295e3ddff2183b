-- There are as many empty scripts as turns so far.
use Rattle.std.proofs.Common.{◌≡◌, []}
use Rattle.std.specs.Prelude.{replicate}
use Rattle.st_commands.proofs.drive.empty_scripts.Given as goal

abbrev pub invariant-loop : goal.invariant-loop
invariant-loop l = l.scripts.items ≡ replicate l.counter []
