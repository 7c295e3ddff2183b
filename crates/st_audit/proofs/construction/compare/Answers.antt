-- The comparison advances with each act, and ends at an act that doesn't pass.
use Rattle.std.proofs.Common.{IfSome, subst}
use Rattle.std.proofs.lemmas.Bool.{MatchBool-at_true}
use Rattle.st_check.specs.Progress.{IsPassedBy}
use Rattle.st_audit.proofs.construction.compare.Goals as goal

pub returns-then-passes : goal.returns-then-passes
returns-then-passes c = λ top acts old new number passed steps.
    let kept = subst (λ x. IfSome x (IsPassedBy top c.args.streams.now acts old)) c.in-Some.is
    passed in
    MatchBool-at_true _ _ c.if-passes.true
    (c.in_ok-passes.ensures top acts old new number kept steps)
