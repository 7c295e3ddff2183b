-- The list of counts has a node 1.
use Rattle.std.proofs.Common.{◌≡◌, ◌+◌, length, arith}
use Rattle.st_arena.specs.Tree.{wide}
use Rattle.st_arena.proofs.TreeLemmas.{wide-positive}
use Rattle.st_arena.proofs.tree.count_live.Goals as goal

pub bounds-counts-1 : goal.bounds-counts-1
bounds-counts-1 c =
    let len : length c.args.counts.now ≡ wide c.args.height + wide c.args.height =
    c.requires.tree.len in
    let some = wide-positive c.args.height in
    omega (arith, len, some)
