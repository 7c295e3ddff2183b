-- There are as many lists as before.
use Rattle.std.proofs.Common.{◌≡◌, length}
use Rattle.st_system_tests.proofs.sizes.arenas.push_many.Given as goal

abbrev pub invariant-loop-item : goal.invariant-loop-item
invariant-loop-item l = length l.lists.lists ≡ length l.fn.lists.lists
