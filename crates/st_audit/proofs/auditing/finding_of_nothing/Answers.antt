-- Without items the verdict on an empty list of acts is yes.
use Rattle.std.proofs.Common.{[], sym, ◌∙◌, subst}
use Rattle.st_check.specs.Answers.{verdict_of}
use Rattle.st_check.specs.declared.verdict.Verdict.{Verdict}
use Rattle.st_core.specs.Verdict.{IsVerdict}
use Rattle.st_audit.specs.Findings.{IsNo}
use Rattle.st_audit.proofs.NoItems.{accepts_nothing}
use Rattle.st_audit.proofs.auditing.finding_of_nothing.Goals as goal

pub unreachable-requires-in-Ok-Left : goal.unreachable-requires-in-Ok-Left
unreachable-requires-in-Ok-Left g c =
    let top = g.row.TOP in
    let streams = c.args.streams.now in
    let told = c.in-Ok-Left.field-0 in
    let is : IsVerdict top streams [] (verdict_of told) =
    subst (λ acts. IsVerdict top streams acts (verdict_of told))
    (c.as_slice.ensures ∙ c.new-acts.ensures)
    c.in-Ok-Left.ensures.verdict in
    accepts_nothing top streams (verdict_of told) c.requires is
    (subst (λ (v : Verdict). IsNo (verdict_of v)) (sym c.in-Ok-Left.field-0-is) tt)
