-- The act has a step, and there was room for it.
use Rattle.std.proofs.Common.{refl, arith}
use Rattle.lack_acts.proofs.Running.{extends_one}
use Rattle.lack_acts.proofs.lean.Acts.perform.Goals as goal

pub returns-in-Ok-step-clause-goes_on : goal.returns-in-Ok-step-clause-goes_on
returns-in-Ok-step-clause-goes_on g c =
    extends_one c.args.self.now _ c.args.act _ c.in-Ok.ensures.ok c.in-Ok-step.ensures.step refl
    c.requires refl (omega arith)
