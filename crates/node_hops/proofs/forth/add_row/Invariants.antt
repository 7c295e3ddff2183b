-- So far the wanted places from the index on were added, the last one first.
use Rattle.std.proofs.Common.{◌≡◌, ◌++◌, ◌≤◌, length}
use Rattle.node_hops.proofs.Trees.{behind}
use Rattle.node_hops.proofs.forth.add_row.Given as goal

abbrev pub invariant-events : goal.invariant-events
invariant-events l = record {
  within : l.left ≤ length l.row;
  added : l.waiting.items ≡ l.initial.waiting.items
      ++ behind l.all l.pid l.label l.first l.depth l.left l.row;
}

abbrev pub decreases-events : goal.decreases-events
decreases-events l = l.left
