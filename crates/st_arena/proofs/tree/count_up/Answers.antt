-- No node counts more than the number of all slots, so adding 1 fits.
use Rattle.std.proofs.Common.{◌≡◌, ◌+◌, ◌≤◌, ◌^◌, arith}
use Rattle.st_arena.specs.Tree.{count_at}
use Rattle.st_arena.proofs.TreeLemmas.{node-bound}
use Rattle.st_arena.proofs.tree.count_up.Goals as goal

pub overflow_add-counts : goal.overflow_add-counts
overflow_add-counts c =
    let same : count_at c.loop-node.counts c.loop-node.node
    ≡ count_at c.args.counts.now c.loop-node.node =
    c.loop-node.invariant.3.same c.loop-node.node (omega arith) in
    let bound =
    node-bound c.args.counts.now c.args.height c.requires.tree c.loop-node.node
    (omega (arith, c.loop-node-test.true))
    (omega (arith, c.loop-node.invariant.1, c.loop-node.invariant.2)) in
    let most : count_at c.loop-node.counts c.loop-node.node + 1 ≤ 2 ^ 60 =
    omega (arith, same, bound, c.requires.tree.few) in
    search (arith, most)
