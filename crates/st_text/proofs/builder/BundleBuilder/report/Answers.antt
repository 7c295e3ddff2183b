-- The tests come in the order of the faults, and an event that passes them all has none.
use Rattle.std.proofs.Common.{◌≡◌, ◌+◌, ◌∙◌, ◌&&◌, ◌||◌, not, true, false, refl, sym, ap}
use Rattle.std.specs.Prelude.{is_some}
use Rattle.st_core.specs.Streams.{is_own}
use Rattle.st_core.proofs.ForCallers.{both_true, and_false}
use Rattle.st_text.specs.Parts.Remote.{is_event_remote}
use Rattle.st_text.specs.Fault.{last_passes}
use Rattle.st_text.proofs.BuilderFaults.{report_fault, report_good, needs_room, no_line, not_own}
use Rattle.st_text.proofs.BuilderFaults.{too_many, begun_out, out_first, away_out, let_in}
use Rattle.st_text.proofs.BuilderFaults.{not_begun, none_of_acts, at_most, passes_at, passes_none}
use Rattle.st_text.proofs.BuilderSteps.{sound_event}
use Rattle.st_text.proofs.builder.BundleBuilder.report.Goals as goal

pub returns-then-is_some : goal.returns-then-is_some
returns-then-is_some c = λ ls s.
    let p = c.args.self.now in
    report_fault c.args.limits p ls c.args.event.now s
    ∙ no_line (p.lines + 1) _ _ _ _
    (out_first (not (is_some p.acts)) (last_passes (λ r. true) p.last)
    (p.wide || not (is_event_remote c.args.event.now))
    (begun_out (is_some p.acts) (last_passes (λ r. true) p.last)
    (sym c.is_some.ensures ∙ c.if-is_some.true)))

pub returns-then-keeps_out : goal.returns-then-keeps_out
returns-then-keeps_out c = λ ls s.
    let p = c.args.self.now in
    let out : (is_event_remote c.args.event.now && not p.wide) ≡ true =
    ap (λ b. b && not p.wide) (sym c.is_event_remote-away.ensures) ∙ sym c.keeps_out.ensures
    ∙ c.if-keeps_out.true in
    report_fault c.args.limits p ls c.args.event.now s ∙ no_line (p.lines + 1) _ _ _ _
    (away_out _ _ _ out)

pub returns-in_default : goal.returns-in_default
returns-in_default c = λ ls s.
    let p = c.args.self.now in
    report_fault c.args.limits p ls c.args.event.now s
    ∙ no_line (p.lines + 1) _ _ _ _
    (out_first (not (is_some p.acts)) (last_passes (λ r. true) p.last)
    (p.wide || not (is_event_remote c.args.event.now))
    (and_false (not (is_some p.acts)) (last_passes (λ r. true) p.last)
    (passes_none (λ r. true) p.last c.in_default.is)))

pub returns-then-not-is_own : goal.returns-then-not-is_own
returns-then-not-is_own c = λ ls s.
    let p = c.args.self.now in
    let out : (is_event_remote c.args.event.now && not p.wide) ≡ false =
    ap (λ b. b && not p.wide) (sym c.is_event_remote-away.ensures) ∙ sym c.keeps_out.ensures
    ∙ c.if-keeps_out.false in
    let follows =
    both_true (not (is_some p.acts)) _ (not_begun _ (sym c.is_some.ensures ∙ c.if-is_some.false))
    (passes_at (λ r. true) p.last c.in-Some.last true c.in-Some.is refl) in
    let foreign =
    passes_at (λ r. not (is_own r c.args.event.now)) p.last c.in-Some.last true c.in-Some.is
    (ap not (sym c.is_own.ensures ∙ c.if-not-is_own.true)) in
    report_fault c.args.limits p ls c.args.event.now s
    ∙ not_own (p.lines + 1) _ _ _ _ (let_in _ p.wide (is_event_remote c.args.event.now) follows out)
    refl foreign

pub returns-then-self-limits : goal.returns-then-self-limits
returns-then-self-limits c = λ ls s.
    let p = c.args.self.now in
    let out : (is_event_remote c.args.event.now && not p.wide) ≡ false =
    ap (λ b. b && not p.wide) (sym c.is_event_remote-away.ensures) ∙ sym c.keeps_out.ensures
    ∙ c.if-keeps_out.false in
    let follows =
    both_true (not (is_some p.acts)) _ (not_begun _ (sym c.is_some.ensures ∙ c.if-is_some.false))
    (passes_at (λ r. true) p.last c.in-Some.last true c.in-Some.is refl) in
    let foreign =
    passes_at (λ r. not (is_own r c.args.event.now)) p.last c.in-Some.last false c.in-Some.is
    (ap not (sym c.is_own.ensures ∙ c.if-not-is_own.false)) in
    report_fault c.args.limits p ls c.args.event.now s
    ∙ too_many (p.lines + 1) _ _ _ _
    (let_in _ p.wide (is_event_remote c.args.event.now) follows out) refl foreign
    (at_most c.args.limits.events p.events c.if-self-limits.true)

pub returns-in_default-add : goal.returns-in_default-add
returns-in_default-add c = λ ls s.
    let p = c.args.self.now in
    let begun : is_some p.acts ≡ false = sym c.is_some.ensures ∙ c.if-is_some.false in
    let out : (is_event_remote c.args.event.now && not p.wide) ≡ false =
    ap (λ b. b && not p.wide) (sym c.is_event_remote-away.ensures) ∙ sym c.keeps_out.ensures
    ∙ c.if-keeps_out.false in
    let mine : is_own c.in-Some.last c.args.event.now ≡ true =
    sym c.is_own.ensures ∙ c.if-not-is_own.false in
    needs_room c.args.limits ls _
    (report_good c.args.limits p ls c.args.event.now c.in-Some.last s begun out
    c.in-Some.is mine
    c.if-self-limits.false) refl

pub returns : goal.returns
returns c = λ ls s.
    let p = c.args.self.now in
    let begun : is_some p.acts ≡ false = sym c.is_some.ensures ∙ c.if-is_some.false in
    let out : (is_event_remote c.args.event.now && not p.wide) ≡ false =
    ap (λ b. b && not p.wide) (sym c.is_event_remote-away.ensures) ∙ sym c.keeps_out.ensures
    ∙ c.if-keeps_out.false in
    let mine : is_own c.in-Some.last c.args.event.now ≡ true =
    sym c.is_own.ensures ∙ c.if-not-is_own.false in
    let remote = c.is_either-self.ensures
    ∙ ap (λ b. p.remote || b) c.is_event_remote-away.ensures in (
      report_good c.args.limits p ls c.args.event.now c.in-Some.last s begun out c.in-Some.is mine
          c.if-self-limits.false,
      sound_event p _ ls c.in-Some.last c.args.event.now s (none_of_acts p.acts begun) c.in-Some.is
          refl refl
          c.in-Ok.ensures.ok refl refl refl refl remote,
    )
