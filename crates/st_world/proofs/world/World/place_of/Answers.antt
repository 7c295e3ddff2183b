-- As long as no reset was asked for, no stamp occurs twice in a queue.
use Rattle.std.proofs.Common.{arith}
use Rattle.st_world.proofs.Once.{one_in}
use Rattle.st_world.proofs.world.World.place_of.Goals as goal

pub place_of_one-requires : goal.place_of_one-requires
place_of_one-requires g c = (
  omega arith,
  one_in c.self.inside.processes c.args.pid c.args.from c.args.this
      (c.self.invariant c.if-self.true),
)
