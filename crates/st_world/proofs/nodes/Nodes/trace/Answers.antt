-- The write keeps the node's range and its list.
use Rattle.std.proofs.Common.{refl}
use Rattle.st_world.specs.declared.node.Node.{Node}
use Rattle.st_world.proofs.Groups.{groups_kept, lists_from, lists_to, traced_is, traced_here}
use Rattle.st_world.proofs.Groups.{traced_elsewhere}
use Rattle.st_world.proofs.nodes.Nodes.trace.Goals as goal

pub invariant_of-self : goal.invariant_of-self
invariant_of-self c =
    let h = rw (← c.self.view_is) at c.requires in
    let n : Node = c.index_mut-node.result.now in
    let from = lists_from _ _ _ _ c.self.invariant h c.index.ensures
    c.index_mut-node.ensures.value in
    let to = lists_to _ _ _ _ c.self.invariant h c.index.ensures c.index_mut-node.ensures.value in
    groups_kept _ _ _ _ c.self.invariant h c.index.ensures c.index_mut-node.ensures.value
    (record n { traced = c.args.on }) refl refl from to

pub returns-clause-was : goal.returns-clause-was
returns-clause-was c =
    let h = rw (← c.self.view_is) at c.requires in
    rw (← c.self.view_is)
    (traced_is _ _ _ _ c.self.invariant h c.index.ensures c.index_mut-node.ensures.value)

pub returns-clause-here : goal.returns-clause-here
returns-clause-here c =
    let h = rw (← c.self.view_is) at c.requires in
    let n : Node = c.index_mut-node.result.now in
    rw (← c.self.view_is)
    (traced_here _ _ _ _ c.self.invariant h c.index.ensures c.index_mut-node.ensures.value
    (record n { traced = c.args.on }))

pub returns-clause-elsewhere : goal.returns-clause-elsewhere
returns-clause-elsewhere c =
    let h = rw (← c.self.view_is) at c.requires in
    let n : Node = c.index_mut-node.result.now in
    rw (← c.self.view_is)
    (traced_elsewhere _ _ _ _ c.self.invariant h c.index.ensures c.index_mut-node.ensures.value
    (record n { traced = c.args.on }))
