-- Some event before the late one has a count that isn't lower, and the last one like that is a
-- receive.
use Rattle.std.proofs.Common.{None, refl, sym, ◌∙◌, subst}
use Rattle.lack_decide.specs.Higher.{IsHigher, LastHigher}
use Rattle.lack_decide.proofs.Answered.{last_higher, some_higher}
use Rattle.lack_decide.proofs.decision.late_answer.Goals as goal

pub unreachable-requires-in_default-last_higher : goal.unreachable-requires-in_default-last_higher
unreachable-requires-in_default-last_higher g c =
    let e = c.in-Some.event in
    let i = c.args.index in
    some_higher c.args.streams.now c.args.pid i e c.requires.accepted c.requires.late.holds
    (sym c.event.ensures ∙ c.in-Some.is)
    (subst (λ es. LastHigher es e.serial.this i None) c.events-events.ensures.value
    (subst (LastHigher c.events-events.result.now e.serial.this i) c.in_default-last_higher.is
    c.last_higher.ensures))

pub returns : goal.returns
returns g c =
    let e = c.in-Some.event in
    let i = c.args.index in
    let higher = subst (LastHigher c.events-events.result.now e.serial.this i)
    c.in-Some-last_higher.is
    c.last_higher.ensures in
    record {
      accepted = c.requires.accepted;
      least = c.requires.late;
      higher = last_higher c.args.streams.now c.args.pid i _ _ e c.requires.accepted
          c.requires.late.holds
          (sym c.event.ensures ∙ c.in-Some.is) refl
          (subst (λ es. IsHigher es i e.serial.this c.in-Some-last_higher.higher)
          c.events-events.ensures.value higher);
    }
