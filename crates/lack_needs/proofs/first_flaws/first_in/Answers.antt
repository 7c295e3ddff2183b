-- Each event is tested against what the events before it leave.
use Rattle.std.proofs.Common.{sym, ◌∙◌, take, get_or}
use Rattle.st_pair.proofs.ForCallers.{at_get_or, blank}
use Rattle.lack_needs.specs.Places.{place_where}
use Rattle.lack_needs.specs.Flaws.{test_of}
use Rattle.lack_needs.proofs.Leaving.{left_more}
use Rattle.lack_needs.proofs.Flawed.{here, if_false, if_true, passed}
use Rattle.lack_needs.proofs.first_flaws.first_in.Goals as goal

pub returns-then-flaws : goal.returns-then-flaws
returns-then-flaws c =
    let es = c.args.events.now in
    let i = c.loop-i.i in
    let e = get_or es i blank in
    let test = test_of c.args.flaw in
    let at = at_get_or es i blank c.loop-i-test.true in
    let is = sym (c.flaws.ensures (take i es) c.loop-i.invariant.left) ∙ c.if-flaws.true in
    sym (c.loop-i.invariant.rest
    ∙ here (place_where test es) c.args.pid es i e at
    (if_true (test (take i es) e) c.args.pid i is))

pub loop-i-preserved : goal.loop-i-preserved
loop-i-preserved c =
    let es = c.args.events.now in
    let i = c.loop-i.i in
    let e = get_or es i blank in
    let test = test_of c.args.flaw in
    let at = at_get_or es i blank c.loop-i-test.true in
    let is = sym (c.flaws.ensures (take i es) c.loop-i.invariant.left) ∙ c.if-flaws.false in
    record {
      left = c.after-left.ensures (take i es) c.loop-i.invariant.left ∙ left_more es i e at;
      rest = c.loop-i.invariant.rest
          ∙ passed (place_where test es) c.args.pid es i e at
          (if_false (test (take i es) e) c.args.pid i is);
    }
