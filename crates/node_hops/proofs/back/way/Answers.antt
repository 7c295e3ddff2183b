-- Each turn adds the next place, and the way ends if there is none or no hop is left.
use Rattle.std.proofs.Common.{◌-◌, List, ◌++◌, Some, append-nil, arith, ap, sym, ◌∙◌}
use Rattle.node_hops.specs.declared.node.Node.{Node}
use Rattle.node_hops.specs.Way.{way}
use Rattle.node_hops.proofs.Ways.{way_done, way_none, way_passed}
use Rattle.node_hops.proofs.back.way.Goals as goal

pub loop-depth-preserved : goal.loop-depth-preserved
loop-depth-preserved c =
    let streams = c.args.hops.now in
    let reach = c.args.reach in
    rw c.in_ok-push.ensures.items (way_passed streams reach.across reach.most c.loop-depth.depth
    c.loop-depth.list.items
    (way streams reach.across reach.most 0 (Some c.args.place)) c.loop-depth.at c.next_at-at.result
    c.in-Some.place
    c.loop-depth-test.true c.in-Some.is c.next_at-at.ensures c.loop-depth.invariant)

pub returns-in_default : goal.returns-in_default
returns-in_default c =
    let left = c.args.reach.most - c.loop-depth.depth in
    sym (append-nil c.loop-depth.list.items)
    ∙ ap (λ (xs : List Node). c.loop-depth.list.items ++ xs)
    (sym (way_none c.args.hops.now c.args.reach.across left c.loop-depth.depth c.loop-depth.at
    c.in_default.is))
    ∙ c.loop-depth.invariant

pub returns : goal.returns
returns c =
    let left = c.args.reach.most - c.loop-depth.depth in
    sym (append-nil c.loop-depth.list.items)
    ∙ ap (λ (xs : List Node). c.loop-depth.list.items ++ xs)
    (sym (way_done c.args.hops.now c.args.reach.across left c.loop-depth.depth c.loop-depth.at
    (omega arith)))
    ∙ c.loop-depth.invariant
