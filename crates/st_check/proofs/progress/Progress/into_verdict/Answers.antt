-- The comparison gives the verdict without the world.
use Rattle.st_check.proofs.progress.Progress.into_verdict.Goals as goal

pub returns : goal.returns
returns g c = λ acts passed. c.into_verdict.ensures g.row.TOP acts c.args.self.world passed
