-- Each turn of the loop moves the first group of the rest to the groups so far.
use Rattle.st_order.proofs.FirstGroups.{group_passed}
use Rattle.st_order.proofs.labels.groups_of.Goals as goal

pub loop-first-preserved : goal.loop-first-preserved
loop-first-preserved c =
    group_passed c.args.labelled.now c.loop-first.rest.now c.in-Some.first.now _ _ _ _ _ _
    c.in-Some.ensures.value c.leading_with.ensures.count c.split_at.ensures.front
    c.split_at.ensures.back c.in_ok-items.ensures c.loop-first.invariant c.in-Ok.ensures.ok
