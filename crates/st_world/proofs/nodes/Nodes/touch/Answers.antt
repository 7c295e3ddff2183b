-- A full list has each process of its node. In any other the process gets the next slot, which is
-- in no other node's list.
use Rattle.std.proofs.Common.{refl}
use Rattle.st_world.specs.declared.node.Node.{Node}
use Rattle.st_world.proofs.Groups.{one_more, tracers_kept, groups_put, listed_put, listed_kept}
use Rattle.st_world.proofs.Groups.{listed_full}
use Rattle.st_world.proofs.nodes.Nodes.touch.Goals as goal

pub invariant_of-self : goal.invariant_of-self
invariant_of-self c =
    let h = rw (← c.self.view_is) at c.requires in
    groups_put _ _ _ _ c.self.invariant h c.index.ensures
    c.index_mut-node.ensures.value c.if-node.true

pub returns-then-node-clause-tracers : goal.returns-then-node-clause-tracers
returns-then-node-clause-tracers c =
    let h = rw (← c.self.view_is) at c.requires in
    let n : Node = c.index_mut-node.result.now in
    rw (← c.self.view_is)
    (tracers_kept _ _ _ _ c.self.invariant h c.index.ensures c.index_mut-node.ensures.value
    (one_more n) refl)

pub returns-then-node-clause-listed : goal.returns-then-node-clause-listed
returns-then-node-clause-listed c =
    let h = rw (← c.self.view_is) at c.requires in
    listed_put _ _ _ _ c.self.invariant h c.index.ensures
    c.index_mut-node.ensures.value c.if-node.true

pub returns-then-node-clause-others : goal.returns-then-node-clause-others
returns-then-node-clause-others c =
    let h = rw (← c.self.view_is) at c.requires in
    rw (← c.self.view_is)
    (listed_kept _ _ _ _ c.self.invariant h c.index.ensures
    c.index_mut-node.ensures.value c.if-node.true)

pub returns-else-node-clause-listed : goal.returns-else-node-clause-listed
returns-else-node-clause-listed c =
    let h = rw (← c.self.view_is) at c.requires in
    listed_full _ _ _ _ c.self.invariant h c.index.ensures
    c.index_mut-node.ensures.value c.if-node.false
