-- By deciding each front of the acts.
use Rattle.st_core.proofs.Exists as exists
use Rattle.st_core.proofs.laws.a_verdict.Goals as goal

pub returns : goal.returns
returns c = exists.a_verdict
