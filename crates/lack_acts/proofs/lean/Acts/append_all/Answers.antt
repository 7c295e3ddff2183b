-- The acts of one more item go on from those before.
use Rattle.lack_acts.proofs.Running.{extends_then}
use Rattle.lack_acts.proofs.lean.Acts.append_all.Goals as goal

pub loop-item-preserved : goal.loop-item-preserved
loop-item-preserved g c = extends_then _ _ _ c.loop-item.invariant c.in_ok-append.ensures
