-- A process whose last count is the prev needs no act.
use Rattle.lack_acts.proofs.Running.{extends_none}
use Rattle.lack_acts.proofs.lean.Acts.renew.Goals as goal

pub returns-then-eq : goal.returns-then-eq
returns-then-eq g c = extends_none c.args.self.now
