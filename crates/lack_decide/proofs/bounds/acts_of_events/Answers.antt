-- The sum with one more event has its acts too, and in the end no event is left.
use Rattle.std.proofs.Common.{◌+◌, drop, get_or, take, ◌∙◌, ap, arith}
use Rattle.std.proofs.lemmas.List.{drop_all}
use Rattle.st_pair.proofs.ForCallers.{at_get_or, blank}
use Rattle.lack_needs.proofs.ForCallers.{left_more}
use Rattle.lack_decide.specs.Bounds.{acts_after, skipped}
use Rattle.lack_decide.proofs.Bounded.{acts_next, sums_on}
use Rattle.lack_decide.proofs.bounds.acts_of_events.Goals as goal

pub loop-event-preserved : goal.loop-event-preserved
loop-event-preserved c =
    let es = c.args.events.now in
    let i = c.loop-event.event-index in
    let e = get_or es i blank in
    let at = at_get_or es i blank c.loop-event-test.true in
    let own = c.skipped.ensures (take i es) c.loop-event.invariant.left in
    let more = c.saturating_add-more.ensures in
    let all = c.saturating_add-count.ensures in
    let counted = c.loop-event.invariant.counted in
    let next = acts_next es i e at in
    let sums = sums_on c.loop-event.count (6 + skipped (take i es) e)
    (acts_after (take (i + 1) es) (drop (i + 1) es)) in
    record {
      left = c.after-left.ensures (take i es) c.loop-event.invariant.left ∙ left_more es i e at;
      small = omega (arith, all);
      counted = omega (arith, more, own, all, next, counted, sums);
    }

pub returns : goal.returns
returns c =
    let es = c.args.events.now in
    let i = c.loop-event.event-index in
    let none = ap (acts_after (take i es)) (drop_all i es c.loop-event-test.false) in
    omega (arith, none, c.loop-event.invariant.counted, c.loop-event.invariant.small)
