-- Each process comes after those before it, with the events that it has in the streams.
use Rattle.std.proofs.Common.{◌≡◌, ◌+◌, ◌++◌, ◌∷◌, [], true, length, slice_get, suc, take, Some}
use Rattle.std.proofs.Common.{get_or, sym, ◌∙◌, ap, subst, arith}
use Rattle.std.specs.List.{AllByRecursion}
use Rattle.std.proofs.lemmas.List.{length-map, take_all}
use Rattle.st_core.specs.declared.types.Pid.{Pid}
use Rattle.st_core.specs.Run.{Stream}
use Rattle.st_core.specs.Streams.{is_own, unlisted, ComesLast}
use Rattle.st_core.proofs.ForCallers.{all_at}
use Rattle.st_pair.proofs.ForCallers.{stream_here}
use Rattle.st_plan.proofs.ForCallers.{take_more}
use Rattle.lack_laws.specs.Silent.{with_silent}
use Rattle.lack_laws.proofs.ForCallers.{silent_events, silent_sound}
use Rattle.lack_needs.proofs.Ranking.{last_of}
use Rattle.lack_needs.proofs.silent.with_silent.Goals as goal

abbrev none : Pid
none = record { node = 0; number = 0 }

-- the next process of the longer streams
stream_at : (c : goal.After-events) → slice_get (with_silent c.args.streams.now c.args.others.now)
    c.loop-pid.pid-index
    ≡ Some (record {
      pid = get_or c.deref-pid-items.result.now c.loop-pid.pid-index none;
      events = c.events.result.now;
    })
stream_at c =
    let streams = c.args.streams.now in
    let others = c.args.others.now in
    let sound = c.pids-pids.ensures.streams in
    stream_here (with_silent streams others) c.deref-pid-items.result.now c.loop-pid.pid-index none
    c.events.result.now (silent_sound streams sound others).draft.rising
    (c.deref-pid-items.ensures.value ∙ c.in_ok-pids.ensures) c.loop-pid-test.true
    (c.events.ensures.value ∙ sym (silent_events streams sound others _))

pub add_process-requires-clause-last : goal.add_process-requires-clause-last
add_process-requires-clause-last c =
    let sound = silent_sound c.args.streams.now c.pids-pids.ensures.streams c.args.others.now in
    subst (λ xs. ComesLast xs (get_or c.deref-pid-items.result.now c.loop-pid.pid-index none))
    (sym c.loop-pid.invariant) (last_of _ _ _ sound.draft.rising (stream_at c))

pub add_process-requires-clause-own : goal.add_process-requires-clause-own
add_process-requires-clause-own c =
    let all = with_silent c.args.streams.now c.args.others.now in
    let sound = silent_sound c.args.streams.now c.pids-pids.ensures.streams c.args.others.now in
    all_at (λ (x : Stream). AllByRecursion (λ e. is_own x.pid e ≡ true) x.events) all
    c.loop-pid.pid-index _ sound.draft.own (stream_at c)

pub loop-pid-preserved : goal.loop-pid-preserved
loop-pid-preserved c =
    let streams = c.args.streams.now in
    let others = c.args.others.now in
    let sound = c.pids-pids.ensures.streams in
    let all = with_silent streams others in
    let i = c.loop-pid.pid-index in
    let at = stream_here all c.deref-pid-items.result.now i none c.events.result.now
    (silent_sound streams sound others).draft.rising
    (c.deref-pid-items.ensures.value ∙ c.in_ok-pids.ensures) c.loop-pid-test.true
    (c.events.ensures.value ∙ sym (silent_events streams sound others _)) in
    let next : suc i ≡ i + 1 = omega arith in
    let x : Stream = record {
      pid = get_or c.deref-pid-items.result.now i none;
      events = c.events.result.now;
    } in
    c.in_ok-add_process.ensures ∙ ap (λ xs. xs ++ x ∷ []) c.loop-pid.invariant
    ∙ sym (take_more all i x at) ∙ ap (λ n. take n all) next

-- after the loop the draft has all processes
all_there : (c : goal.After-loop-pid) → c.loop-pid.draft
    ≡ with_silent c.args.streams.now c.args.others.now
all_there c =
    let all = with_silent c.args.streams.now c.args.others.now in
    let same = ap length (c.deref-pid-items.ensures.value ∙ c.in_ok-pids.ensures) in
    let long = length-map all (λ (x : Stream). x.pid) in
    let past = c.loop-pid-test.false in
    c.loop-pid.invariant ∙ take_all c.loop-pid.pid-index all (omega (arith, same, long, past))

pub close_draft-requires : goal.close_draft-requires
close_draft-requires c =
    ap unlisted (all_there c)
    ∙ (silent_sound c.args.streams.now c.pids-pids.ensures.streams c.args.others.now).listed

pub returns : goal.returns
returns c =
    let all = with_silent c.args.streams.now c.args.others.now in
    let same = ap length (c.deref-pid-items.ensures.value ∙ c.in_ok-pids.ensures) in
    let long = length-map all (λ (x : Stream). x.pid) in
    let past = c.loop-pid-test.false in
    c.close_draft.ensures ∙ c.loop-pid.invariant
    ∙ take_all c.loop-pid.pid-index all (omega (arith, same, long, past))
