-- Each event is tested against what the events before it leave.
use Rattle.std.proofs.Common.{get_or, take, ◌∙◌, arith}
use Rattle.std.proofs.lemmas.Option.{slice_get_within}
use Rattle.st_pair.proofs.ForCallers.{at_get_or, blank}
use Rattle.lack_needs.proofs.ForCallers.{left_more, more_passed}
use Rattle.lack_decide.specs.Links.{IsEventFit}
use Rattle.lack_decide.proofs.judge.are_fit.Goals as goal

pub loop-i-preserved : goal.loop-i-preserved
loop-i-preserved c =
    let es = c.args.events.now in
    let i = c.loop-i.i in
    let e = get_or es i blank in
    let at = at_get_or es i blank c.loop-i-test.true in
    record {
      left = c.after-left.ensures (take i es) c.loop-i.invariant.left ∙ left_more es i e at;
      fit = more_passed (IsEventFit c.args.top c.args.streams.now c.args.links.now es) es i e at
          c.loop-i.invariant.fit (record {
            goes_on = (c.goes_on.ensures (take i es) c.loop-i.invariant.left).0
                c.if-not-goes_on.false;
            linked = c.has_send.ensures c.if-not-has_send.false;
          });
    }

pub returns : goal.returns
returns c = λ yes i e at.
    let past = c.loop-i-test.false in
    c.loop-i.invariant.fit i e (omega (arith, past, slice_get_within c.args.events.now i e at)) at
