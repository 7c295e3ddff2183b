-- Acts have one verdict, so the findings agree in all parts.
use Rattle.st_audit.proofs.OneFinding.{one_finding}
use Rattle.st_audit.proofs.laws.one_finding.Goals as goal

pub returns : goal.returns
returns c = one_finding
