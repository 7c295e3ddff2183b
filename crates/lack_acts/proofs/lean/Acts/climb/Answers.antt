-- A clock that is high enough needs no act, and each print goes on from the acts before.
use Rattle.lack_acts.proofs.Running.{extends_none, extends_then}
use Rattle.lack_acts.proofs.lean.Acts.climb.Goals as goal

pub returns-then-clock-count : goal.returns-then-clock-count
returns-then-clock-count g c = extends_none c.args.self.now

pub loop-preserved : goal.loop-preserved
loop-preserved g c = extends_then _ _ _ c.loop.invariant c.in_ok-perform.ensures.goes_on
