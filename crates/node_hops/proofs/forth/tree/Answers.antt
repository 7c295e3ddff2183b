-- Each turn takes off the next node, and puts its children there.
use Rattle.std.proofs.Common.{◌++◌, ◌∙◌, ap, reverse}
use Rattle.std.specs.List.{flat_map}
use Rattle.node_hops.specs.Tree.{tree}
use Rattle.node_hops.proofs.Trees.{below, found, found_smaller}
use Rattle.node_hops.proofs.forth.tree.Goals as goal

pub loop-node-preserved-in-Continue-branch-3 : goal.loop-node-preserved-in-Continue-branch-3
loop-node-preserved-in-Continue-branch-3 c =
    let streams = c.args.hops.now in
    let across = c.args.reach.across in
    let most = c.args.reach.most in
    let after = c.add_children.new.waiting.items in
    ap (λ xs. xs ++ flat_map (below streams across most)
    (reverse after)) c.in_ok-push-2.ensures.items
    ∙ found streams across most c.loop-node.waiting.items c.pop.new.self.items after c.in-Some.node
    c.in-Some.ensures.items c.loop-node.nodes.items
    (tree streams across most 0 c.args.place) c.if-node-reach.true
    c.in_ok-add_children.ensures c.loop-node.invariant

pub loop-node-smaller-in-Continue-branch-3 : goal.loop-node-smaller-in-Continue-branch-3
loop-node-smaller-in-Continue-branch-3 c =
    found_smaller c.args.hops.now c.args.reach.across c.args.reach.most c.loop-node.waiting.items
    c.pop.new.self.items c.add_children.new.waiting.items c.in-Some.node c.in-Some.ensures.items
    c.if-node-reach.true
    c.in_ok-add_children.ensures
