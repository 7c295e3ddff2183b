-- The loop's pushes keep the number of lists.
use Rattle.std.proofs.Common.{◌≡◌, length}
use Rattle.st_machine_tests.proofs.lists.a_push_without_memory_may_be_asked_again.Given as goal

-- there are two lists
abbrev pub invariant-loop-item : goal.invariant-loop-item
invariant-loop-item g l = length l.lists.lists ≡ 2
