-- The streams without strays tell what was told, and so do those with the moved messages.
use Rattle.std.proofs.Common.{IfSome, ◌∙◌, ap, subst}
use Rattle.std.proofs.lemmas.Option.{IfSome_then}
use Rattle.st_plan.specs.Marks.{told_streams}
use Rattle.lack_needs.specs.Completions.{wholes_with}
use Rattle.lack_acts.specs.Told.{TellsAs}
use Rattle.lack_acts.proofs.homes.with_near_homes.Goals as goal

pub returns : goal.returns
returns c =
    let wholes = wholes_with c.args.streams.now c.args.marks.now in
    let kept = c.in-Some.kept in
    let tells = subst (λ o. IfSome o (TellsAs wholes)) c.in-Some.is c.in_ok-found.ensures in
    let own = ap (λ ms. told_streams (wholes_with kept.streams ms)) c.as_slice-own.ensures.value in
    IfSome_then c.in_ok-more.more c.in_ok-more.ensures (λ w again. again ∙ own ∙ tells)
