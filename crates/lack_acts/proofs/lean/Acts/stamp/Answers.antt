-- The acts of each call go on from those of the calls before.
use Rattle.lack_acts.proofs.Running.{extends_then}
use Rattle.lack_acts.proofs.lean.Acts.stamp.Goals as goal

pub returns : goal.returns
returns g c =
    let ready = extends_then _ _ _ (extends_then _ _ _ c.in_ok-renew.ensures c.in_ok-climb.ensures)
    c.in_ok-dress.ensures in
    extends_then _ _ _ ready c.in_ok-perform.ensures.goes_on
