-- The first reason of the verdicts so far is known, and one more verdict comes.
use Rattle.std.proofs.Common.{◌∷◌, ◌++◌, [], Some, sym, subst}
use Rattle.lack_pieces.specs.Verdicts.{IsFirstAmong}
use Rattle.lack_pieces.proofs.Candidates.{first_and_next, first_and_none, first_from_none}
use Rattle.lack_pieces.proofs.placed_reason.first_of.Goals as goal

pub returns-in-None-default : goal.returns-in-None-default
returns-in-None-default c = λ verdicts first. first_from_none verdicts c.args.next
    (subst (IsFirstAmong verdicts) c.in-None-default.is-0 first)

pub returns-in-Some-None : goal.returns-in-Some-None
returns-in-Some-None c = λ verdicts first.
    subst (λ n. IsFirstAmong (verdicts ++ n ∷ []) (Some c.in-Some-None.before))
    (sym c.in-Some-None.is-1) (first_and_none verdicts c.in-Some-None.before
    (subst (IsFirstAmong verdicts) c.in-Some-None.is-0 first))

pub returns-in-Some-Some : goal.returns-in-Some-Some
returns-in-Some-Some c = λ verdicts first.
    subst (λ n. IsFirstAmong (verdicts ++ n ∷ []) (Some c.earlier_of.result))
    (sym c.in-Some-Some.is-1) (first_and_next verdicts c.in-Some-Some.before c.in-Some-Some.next
    c.earlier_of.result (subst (IsFirstAmong verdicts) c.in-Some-Some.is-0 first)
    c.earlier_of.ensures)
