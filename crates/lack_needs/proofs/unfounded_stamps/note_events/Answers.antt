-- The lowest counts of more events are those so far, lowered by the next event.
use Rattle.std.proofs.Common.{ℕ, Option, take, get_or, subst}
use Rattle.std.proofs.lemmas.List.{take_all}
use Rattle.st_core.specs.declared.types.Pid.{Pid}
use Rattle.st_core.specs.Run.{pids_of}
use Rattle.st_pair.proofs.ForCallers.{at_get_or, blank}
use Rattle.lack_needs.specs.Unfounded.{lowest_in, IsNoted}
use Rattle.lack_needs.proofs.Noted.{lowest_more}
use Rattle.lack_needs.proofs.unfounded_stamps.note_events.Goals as goal

pub loop-event-init : goal.loop-event-init
loop-event-init c = λ low noted. noted

pub loop-event-preserved : goal.loop-event-preserved
loop-event-preserved c = λ low noted.
    let es = c.args.events.now in
    let i = c.loop-event.event-index in
    let at = at_get_or es i blank c.loop-event-test.true in
    subst (λ (f : Pid → Option ℕ). IsNoted (pids_of c.args.streams.now) f
    c.note_event.new.lows.items)
    (λ k q. lowest_more q (low q) es i (get_or es i blank) at k)
    (c.note_event.ensures (λ q. lowest_in q (low q) (take i es)) (c.loop-event.invariant low noted))

pub returns : goal.returns
returns c = λ low noted.
    let es = c.args.events.now in
    let i = c.loop-event.event-index in
    subst (λ fs. IsNoted (pids_of c.args.streams.now) (λ q. lowest_in q (low q) fs)
    c.loop-event.lows.items)
    (take_all i es c.loop-event-test.false) (c.loop-event.invariant low noted)
