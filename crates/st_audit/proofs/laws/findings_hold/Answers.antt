-- The finding names the place of an item and a reason that was tested there.
use Rattle.st_audit.proofs.TrueFindings.{findings_hold}
use Rattle.st_audit.proofs.laws.findings_hold.Goals as goal

pub returns : goal.returns
returns c = findings_hold
