-- The finding is the one that the streams determine, so what was proved of that holds of it.
use Rattle.std.proofs.lemmas.Result.{IfOk-weaker}
use Rattle.st_audit.proofs.Certificates.{certain_streams_fit}
use Rattle.st_audit.proofs.DeterminedFinding.{hands_on}
use Rattle.st_audit.proofs.Finality.{finding_rules_out}
use Rattle.st_audit.proofs.TrueFindings.{findings_hold}
use Rattle.st_audit.proofs.auditing.audit.Goals as goal

pub returns-clause-found : goal.returns-clause-found
returns-clause-found g c =
    IfOk-weaker c.finding_of.result _ _
    (λ found is. findings_hold g.row.TOP c.args.streams.now found c.finding_of.ensures.streams is)
    c.finding_of.ensures.exact

pub returns-clause-handed_on : goal.returns-clause-handed_on
returns-clause-handed_on g c =
    IfOk-weaker c.finding_of.result _ _ (λ found is. hands_on g.row.TOP c.args.streams.now found is)
    c.finding_of.ensures.exact

pub returns-clause-rules_out : goal.returns-clause-rules_out
returns-clause-rules_out g c =
    IfOk-weaker c.finding_of.result _ _
    (λ found is. finding_rules_out g.row.TOP c.args.streams.now found
    (findings_hold g.row.TOP c.args.streams.now found
    c.finding_of.ensures.streams is))
    c.finding_of.ensures.exact

pub returns-clause-certain : goal.returns-clause-certain
returns-clause-certain g c =
    IfOk-weaker c.finding_of.result _ _
    (λ found is certain. certain_streams_fit g.row.TOP c.args.streams.now found
    c.finding_of.ensures.streams certain is)
    c.finding_of.ensures.exact
