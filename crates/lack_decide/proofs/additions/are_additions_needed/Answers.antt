-- After the loop each addition to each process is needed.
use Rattle.std.proofs.Common.{length, ap, arith}
use Rattle.lack_decide.proofs.NeededAdditions.{additions_needed}
use Rattle.lack_decide.proofs.additions.are_additions_needed.Goals as goal

pub returns : goal.returns
returns c = λ yes.
    let all = ap length c.pids-pid-items.ensures.value in
    let past = c.loop-place-test.false in
    additions_needed c.args.streams.now c.args.lists.now c.loop-place.place
    c.pids-pid-items.ensures.streams.draft.rising (omega (arith, all, past)) c.loop-place.invariant
