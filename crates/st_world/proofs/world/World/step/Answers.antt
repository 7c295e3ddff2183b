-- No act but a reset lets a stamp occur twice.
use Rattle.st_world.proofs.Once.{kept_once}
use Rattle.st_world.proofs.world.World.step.Goals as goal

pub invariant_of-self-in_default : goal.invariant_of-self-in_default
invariant_of-self-in_default g c one =
    kept_once g.row.TOP c.self.inside.processes c.args.act.now c.step-outcome.result
    c.step-outcome.new.self
    c.step-outcome.ensures c.in_default.not-Reset (c.self.invariant one)
