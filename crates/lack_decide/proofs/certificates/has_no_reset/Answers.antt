-- Each act was tested, and a list with a reset isn't one without.
use Rattle.std.proofs.Common.{◌≡◌, false, refl, sym, ◌∙◌, arith}
use Rattle.std.proofs.lemmas.Bool.{false≢true}
use Rattle.std.proofs.lemmas.Option.{slice_get-get_or, slice_get_within}
use Rattle.st_core.specs.Laws.{is_reset}
use Rattle.st_core.proofs.ForCallers.{all_at}
use Rattle.lack_laws.proofs.ForCallers.{all_from}
use Rattle.lack_needs.proofs.ForCallers.{more_passed}
use Rattle.lack_decide.proofs.certificates.has_no_reset.Goals as goal

pub returns-then-is_reset : goal.returns-then-is_reset
returns-then-is_reset c =
    let acts = c.args.acts.now in
    let i = c.loop-act.act-index in (
      λ yes. absurd (false≢true yes),
      λ none. absurd (false≢true (sym (all_at (λ a. is_reset a ≡ false) acts i _ none
          (slice_get-get_or acts i _ c.loop-act-test.true))
          ∙ sym c.is_reset.ensures ∙ c.if-is_reset.true)),
    )

pub loop-act-preserved : goal.loop-act-preserved
loop-act-preserved c =
    let acts = c.args.acts.now in
    let i = c.loop-act.act-index in
    more_passed (λ _ a. is_reset a ≡ false) acts i _
    (slice_get-get_or acts i _ c.loop-act-test.true) c.loop-act.invariant
    (sym c.is_reset.ensures ∙ c.if-is_reset.false)

pub returns : goal.returns
returns c =
    let acts = c.args.acts.now in (
      λ yes. all_from (λ a. is_reset a ≡ false) acts (λ k a at.
          let within = slice_get_within acts k a at in
          c.loop-act.invariant k a (omega (arith, within, c.loop-act-test.false)) at),
      λ none. refl,
    )
