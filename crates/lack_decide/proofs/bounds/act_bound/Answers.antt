-- The sum with one more process has its acts too, and in the end all processes were taken.
use Rattle.std.proofs.Common.{◌+◌, ◌<◌, [], get_or, length, sum_by, take, ap, arith}
use Rattle.std.proofs.lemmas.List.{take_all, take_more}
use Rattle.std.proofs.lemmas.List.Sums.{sum_by_push}
use Rattle.st_core.specs.declared.types.Pid.{Pid}
use Rattle.st_core.specs.Run.{pids_of}
use Rattle.st_core.specs.Streams.{events_of}
use Rattle.lack_decide.specs.Bounds.{acts_after}
use Rattle.lack_decide.proofs.bounds.act_bound.Goals as goal

abbrev none : Pid
none = record { node = 0; number = 0 }

pub loop-pid-preserved : goal.loop-pid-preserved
loop-pid-preserved c =
    let streams = c.args.streams.now in
    let f = λ (p : Pid). 1 + acts_after [] (events_of streams p) in
    let ps = pids_of streams in
    let k = c.loop-pid.pid-index in
    let p = get_or ps k none in
    let are = c.pids-pid-items.ensures.value in
    let within : k < length ps = omega (arith, c.loop-pid-test.true, ap length are) in
    let taken = ap (sum_by f) (take_more ps k none within) in
    let pushed = sum_by_push f (take k ps) p in
    let same = ap (λ qs. get_or qs k none) are in
    let own = c.acts_of_events.ensures in
    let events = ap (acts_after []) c.events.ensures.value in
    let more = c.saturating_add-more.ensures in
    let now = c.saturating_add-count.ensures in
    let so_far = c.loop-pid.invariant in
    let here = ap (λ q. acts_after [] (events_of streams q)) same in
    omega (arith, taken, pushed, own, events, more, now, so_far, here)

pub returns : goal.returns
returns c =
    let streams = c.args.streams.now in
    let f = λ (p : Pid). 1 + acts_after [] (events_of streams p) in
    let past = c.loop-pid-test.false in
    let all = ap length c.pids-pid-items.ensures.value in
    let taken = ap (sum_by f) (take_all c.loop-pid.pid-index (pids_of streams)
    (omega (arith, past, all))) in
    omega (arith, taken, c.loop-pid.invariant)
