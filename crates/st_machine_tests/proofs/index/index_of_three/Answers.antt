-- A new index is an index of the empty queue.
use Rattle.std.proofs.Common.{[]}
use Rattle.st_machine_tests.proofs.index.index_of_three.Goals as goal

pub index_with-requires-clause-index : goal.index_with-requires-clause-index
index_with-requires-clause-index c = record { queue = []; is = c.in_ok-none.ensures.empty }
