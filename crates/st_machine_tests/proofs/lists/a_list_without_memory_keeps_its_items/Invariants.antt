-- The loop keeps the number of lists.
use Rattle.std.proofs.Common.{◌≡◌, length}
use Rattle.st_machine_tests.proofs.lists.a_list_without_memory_keeps_its_items.Given as goal

-- there are two lists
abbrev pub invariant-loop-item : goal.invariant-loop-item
invariant-loop-item g l = length l.lists.lists ≡ 2
