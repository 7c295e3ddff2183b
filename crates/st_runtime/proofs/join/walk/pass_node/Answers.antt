-- The walk over the node begins after lower nodes, and ends at a higher one or at the end.
use Rattle.std.proofs.Common.{◌<◌, arith, inl, inr, subst}
use Rattle.st_core.specs.declared.types.Pid.{Pid}
use Rattle.st_log.specs.Entries.{entry_at}
use Rattle.st_runtime.proofs.Passing.{below_from, node_stepped}
use Rattle.st_runtime.proofs.join.walk.pass_node.Goals as goal

pub returns-then-node : goal.returns-then-node
returns-then-node c sure =
    let nobody : Pid = record { node = 0; number = 0 } in
    node_stepped (entry_at c.args.log.now.entries c.args.place) c.args.node c.args.pids.now
    c.first_on-first.result c.loop-at.at c.args.cursors.now c.loop-at.cursors nobody
    c.requires.pids c.requires.node c.requires.rising c.requires.wide
    (c.are_lower.ensures c.if-not-are_lower.false)
    (inr (subst (λ n. c.args.node < n) c.node-then-node.ensures
    (below_from c.args.node c.node-then-node.result sure)))
    c.loop-at.invariant

pub returns : goal.returns
returns c _ =
    let nobody : Pid = record { node = 0; number = 0 } in
    node_stepped (entry_at c.args.log.now.entries c.args.place) c.args.node c.args.pids.now
    c.first_on-first.result c.loop-at.at c.args.cursors.now c.loop-at.cursors nobody
    c.requires.pids c.requires.node c.requires.rising c.requires.wide
    (c.are_lower.ensures c.if-not-are_lower.false)
    (inl (omega (arith, c.loop-at-test.false, c.loop-at.invariant.even)))
    c.loop-at.invariant
