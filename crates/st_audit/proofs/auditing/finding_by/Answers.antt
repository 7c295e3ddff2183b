-- Acts with the verdict yes are a certificate, and each other verdict isn't yes.
use Rattle.std.proofs.Common.{rules, refl, subst}
use Rattle.st_check.specs.Answers.{verdict_of}
use Rattle.st_core.specs.Verdict.{IsVerdict}
use Rattle.st_audit.specs.Findings.{IsNo}
use Rattle.st_audit.proofs.auditing.finding_by.Goals as goal

pub returns-in-Yes : goal.returns-in-Yes
returns-in-Yes c = λ top streams is.
    (refl, subst (λ v. IsVerdict top streams c.args.acts (verdict_of v)) c.in-Yes.is is)

pub returns-in_default : goal.returns-in_default
returns-in_default c = λ top streams is.
    let no : IsNo (verdict_of c.args.verdict) = search rules in
    (refl, refl, is, no)
