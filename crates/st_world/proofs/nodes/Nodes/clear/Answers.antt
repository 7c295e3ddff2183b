-- The write keeps the node's range and whether it is traced. Its list is empty afterwards, and the
-- lists of other nodes stay.
use Rattle.std.proofs.Common.{refl, arith}
use Rattle.st_world.specs.declared.node.Node.{Node}
use Rattle.st_world.proofs.Groups.{emptied, groups_kept, listed_apart, lists_from, lists_to}
use Rattle.st_world.proofs.Groups.{tracers_kept}
use Rattle.st_world.proofs.nodes.Nodes.clear.Goals as goal

pub invariant_of-self : goal.invariant_of-self
invariant_of-self c =
    let h = rw (← c.self.view_is) at c.requires in
    let n : Node = c.index_mut-node.result.now in
    let empty : Node = record n { listed = n.start } in
    let from = lists_from _ _ _ _ c.self.invariant h c.index.ensures
    c.index_mut-node.ensures.value in
    let to = lists_to _ _ _ _ c.self.invariant h c.index.ensures c.index_mut-node.ensures.value in
    groups_kept _ _ _ _ c.self.invariant h c.index.ensures c.index_mut-node.ensures.value empty
    refl refl (omega arith) (omega (arith, from, to))

pub returns-clause-empty : goal.returns-clause-empty
returns-clause-empty c =
    let h = rw (← c.self.view_is) at c.requires in
    let n : Node = c.index_mut-node.result.now in
    let empty : Node = record n { listed = n.start } in
    emptied _ _ _ _ c.self.invariant h c.index.ensures c.index_mut-node.ensures.value empty
    refl

pub returns-clause-tracers : goal.returns-clause-tracers
returns-clause-tracers c =
    let h = rw (← c.self.view_is) at c.requires in
    let n : Node = c.index_mut-node.result.now in
    let empty : Node = record n { listed = n.start } in
    rw (← c.self.view_is)
    (tracers_kept _ _ _ _ c.self.invariant h c.index.ensures c.index_mut-node.ensures.value empty
    refl)

pub returns-clause-others : goal.returns-clause-others
returns-clause-others c =
    let h = rw (← c.self.view_is) at c.requires in
    let n : Node = c.index_mut-node.result.now in
    let empty : Node = record n { listed = n.start } in
    rw (← c.self.view_is)
    (listed_apart _ _ _ _ c.self.invariant h c.index.ensures c.index_mut-node.ensures.value empty)
