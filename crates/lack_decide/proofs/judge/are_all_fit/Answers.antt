-- The events of each process are fit, and in the end all processes were taken.
use Rattle.std.proofs.Common.{get_or, length, slice_get, sym, ◌∙◌, ap, subst, arith}
use Rattle.st_core.specs.declared.types.Pid.{Pid}
use Rattle.st_core.specs.Run.{pids_of}
use Rattle.st_core.specs.Streams.{events_of}
use Rattle.st_pair.proofs.ForCallers.{at_get_or}
use Rattle.lack_decide.proofs.Linked.{all_fit, needless}
use Rattle.lack_decide.specs.Links.{AreEventsFit}
use Rattle.lack_needs.proofs.ForCallers.{more_passed}
use Rattle.lack_decide.proofs.judge.are_all_fit.Goals as goal

abbrev none : Pid
none = record { node = 0; number = 0 }

pub loop-place-preserved : goal.loop-place-preserved
loop-place-preserved c =
    let k = c.loop-place.place in
    let p = get_or c.pids-pid-items.result.now k none in
    let at = sym (ap (λ ps. slice_get ps k) c.pids-pid-items.ensures.value)
    ∙ at_get_or _ k none c.loop-place-test.true in
    let top = c.args.top in
    let streams = c.args.streams.now in
    let links = c.args.links.now in
    more_passed (λ _ q. AreEventsFit top streams links (events_of streams q)) (pids_of streams) k p
    at c.loop-place.invariant (subst (AreEventsFit top streams links) c.events.ensures.value
    (c.are_fit.ensures c.if-not-are_fit.false))

pub returns : goal.returns
returns c = λ yes.
    let streams = c.args.streams.now in
    let all = ap length c.pids-pid-items.ensures.value in
    let past = c.loop-place-test.false in
    needless c.args.top streams c.args.links.now c.pids-pid-items.ensures.streams
    (all_fit c.args.top streams c.args.links.now c.loop-place.place (omega (arith, all, past))
    c.loop-place.invariant)
