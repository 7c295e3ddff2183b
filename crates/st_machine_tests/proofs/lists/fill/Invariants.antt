-- The loop's pushes keep the number of lists.
use Rattle.std.proofs.Common.{◌≡◌, length}
use Rattle.st_machine_tests.proofs.lists.fill.Given as goal

-- there are as many lists as before the call
abbrev pub invariant-loop-item : goal.invariant-loop-item
invariant-loop-item g l = length l.lists.lists ≡ length l.fn.lists.lists
