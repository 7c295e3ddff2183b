-- The word may come if the acts haven't begun, whatever came before.
use Rattle.std.proofs.Common.{◌≡◌, ◌+◌, ◌∙◌, not, false, refl, sym, ap, Some}
use Rattle.std.specs.Prelude.{is_some}
use Rattle.st_text.proofs.BuilderFaults.{begin_fault, no_line, no_fault, begun_out, let_in}
use Rattle.st_text.proofs.BuilderFaults.{not_begun, none_of_acts}
use Rattle.st_text.proofs.BuilderSteps.{sound_begin}
use Rattle.st_text.proofs.builder.BundleBuilder.begin.Goals as goal

pub returns-then-is_some : goal.returns-then-is_some
returns-then-is_some c = λ limits ls s.
    let p = c.args.self.now in
    begin_fault limits p ls s ∙ no_line (p.lines + 1) _ _ _ _
    (begun_out _ _ (sym c.is_some.ensures ∙ c.if-is_some.true))

pub returns : goal.returns
returns c = λ limits ls s.
    let p = c.args.self.now in
    let begun : is_some p.acts ≡ false = sym c.is_some.ensures ∙ c.if-is_some.false in (
      begin_fault limits p ls s
          ∙ no_fault (p.lines + 1) _ _ _ _
          (let_in (not (is_some p.acts)) p.wide false (not_begun _ begun) refl)
          refl refl refl,
      sound_begin p _ ls s (none_of_acts p.acts begun) refl (ap Some c.new.ensures) refl refl refl
          refl refl refl,
    )
