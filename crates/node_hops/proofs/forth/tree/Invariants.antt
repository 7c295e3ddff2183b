-- The nodes found, and the trees of those that wait, are the whole tree.
use Rattle.std.proofs.Common.{◌≡◌, ◌++◌, length, reverse}
use Rattle.std.specs.List.{flat_map}
use Rattle.node_hops.specs.Tree.{tree}
use Rattle.node_hops.proofs.Trees.{below, weight}
use Rattle.node_hops.proofs.forth.tree.Given as goal

abbrev pub invariant-loop-node : goal.invariant-loop-node
invariant-loop-node l =
    l.nodes.items ++ flat_map (below l.hops l.reach.across l.reach.most)
    (reverse l.waiting.items)
    ≡ tree l.hops l.reach.across l.reach.most 0 l.fn.place

abbrev pub decreases-loop-node : goal.decreases-loop-node
decreases-loop-node l =
    length (flat_map (weight l.hops l.reach.across l.reach.most) (reverse l.waiting.items))
