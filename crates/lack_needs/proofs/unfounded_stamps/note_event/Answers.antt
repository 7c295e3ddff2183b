-- Only the lowest count of the event's sender changes.
use Rattle.std.proofs.Common.{refl, arith}
use Rattle.std.proofs.lemmas.Option.{slice_get_within}
use Rattle.st_core.specs.Run.{pids_of}
use Rattle.lack_needs.proofs.Noted.{noted_here, noted_missing, noted_zero}
use Rattle.lack_needs.proofs.unfounded_stamps.note_event.Goals as goal

pub returns-then-event-eq0 : goal.returns-then-event-eq0
returns-then-event-eq0 c = λ low noted. noted_zero (pids_of c.args.streams.now) low _
    c.args.event.now
    c.if-event-eq0.true noted

pub returns-in_default : goal.returns-in_default
returns-in_default c = λ low noted. noted_missing (pids_of c.args.streams.now) low _
    c.args.event.now
    c.in_default.ensures.missing noted

pub returns-then-place-len : goal.returns-then-place-len
returns-then-place-len c = λ low noted.
    noted_here (pids_of c.args.streams.now) low _ _ c.args.event.now c.in-Some.place
    c.pids-pids.ensures.streams.draft.rising c.in-Some.ensures.found c.if-event-eq0.false
    c.index.result.now
    c.index.ensures (rw c.lower_count.ensures refl) noted

pub returns-else-place-len : goal.returns-else-place-len
returns-else-place-len c = λ low noted.
    let within = slice_get_within (pids_of c.args.streams.now) c.in-Some.place c.args.event.now.from
    c.in-Some.ensures.found in
    let long = noted.long in
    absurd (omega (arith, within, long, c.if-place-len.false, c.len.ensures, c.args.lows.now.ok.0))
