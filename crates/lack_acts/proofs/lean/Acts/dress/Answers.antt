-- A token that meets the demand needs no act.
use Rattle.lack_acts.proofs.Running.{extends_none}
use Rattle.lack_acts.proofs.lean.Acts.dress.Goals as goal

pub returns-in-None : goal.returns-in-None
returns-in-None g c = extends_none c.args.self.now
