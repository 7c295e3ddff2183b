-- The count is at most that of the scripts so far.
use Rattle.std.proofs.Common.{◌≤◌, take}
use Rattle.st_runtime.specs.Driven.{stamps_in}
use Rattle.st_runtime.proofs.driver.stamps_in.Given as goal

abbrev pub invariant-loop-script : goal.invariant-loop-script
invariant-loop-script l = l.total ≤ stamps_in (take l.script-index l.scripts)
