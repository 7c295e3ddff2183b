-- The process at each place tells its events in the streams; an unlisted one has none there.
use Rattle.std.proofs.Common.{get_or, length, slice_get, sym, ◌∙◌, ap, arith}
use Rattle.st_core.specs.declared.types.Pid.{Pid}
use Rattle.st_pair.proofs.ForCallers.{at_get_or}
use Rattle.lack_laws.specs.Silent.{with_silent}
use Rattle.lack_laws.proofs.ForCallers.{silent_events, silent_sound}
use Rattle.lack_needs.proofs.ForCallers.{all_told, pids_length}
use Rattle.lack_decide.proofs.Judged.{told_here, told_next}
use Rattle.lack_decide.proofs.judge.tells_streams.Goals as goal

abbrev none : Pid
none = record { node = 0; number = 0 }

pub loop-place-preserved : goal.loop-place-preserved
loop-place-preserved c =
    let all = c.args.all.now in
    let streams = c.args.streams.now in
    let qs = c.args.unlisted.now in
    let sound = c.pids-pids.ensures.streams in
    let more = with_silent streams qs in
    let k = c.loop-place.place in
    let same_length = c.if-all_pids-pids.false in
    let within = c.loop-place-test.true in
    let p = get_or c.args.pids.now k none in
    let q = get_or c.pids-all_pids.result.now k none in
    let at = sym (ap (λ ps. slice_get ps k) c.requires)
    ∙ at_get_or _ k none within in
    let at_all = sym (ap (λ ps. slice_get ps k) c.pids-all_pids.ensures.value)
    ∙ at_get_or _ k none (omega arith) in
    told_next all c.args.lists.now more k c.loop-place.invariant
    (told_here all c.args.lists.now more k p q _ _ _ c.pids-all_pids.ensures.streams.draft.rising
    (silent_sound streams sound qs).draft.rising at_all at
    (c.is_same_pid.ensures.0 c.if-not-is_same_pid.false) c.events.ensures.value
    (c.events-in-loop-place.ensures.value ∙ sym (silent_events streams sound qs p))
    c.marks_at-marks.ensures
    (c.tells_events.ensures c.if-not-tells_events.false))

pub returns-clause-told : goal.returns-clause-told
returns-clause-told c = λ yes.
    let all = c.args.all.now in
    let more = with_silent c.args.streams.now c.args.unlisted.now in
    let own = ap length c.requires ∙ pids_length more in
    let whole = ap length c.pids-all_pids.ensures.value ∙ pids_length all in
    let even = c.if-all_pids-pids.false in
    let end = c.loop-place-test.false in
    all_told all c.args.lists.now more (omega (arith, own, whole, even))
    (λ k less. c.loop-place.invariant k (omega (arith, own, whole, even, end, less)))
