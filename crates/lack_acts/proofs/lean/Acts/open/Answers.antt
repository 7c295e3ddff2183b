-- A tracer goes on from the acts before, and a node that has one needs no act.
use Rattle.std.proofs.Common.{sym, subst}
use Rattle.lack_acts.specs.declared.lean.Acts.{Acts}
use Rattle.lack_acts.specs.Acts.{Extends}
use Rattle.lack_acts.proofs.Running.{extends_none, extends_then}
use Rattle.lack_acts.proofs.lean.Acts.open.Goals as goal
use Rattle.lack_acts.proofs.lean.Acts.open.Goals.{then-ne+in_ok-perform, else-ne}

pub loop-pid-init : goal.loop-pid-init
loop-pid-init g c = extends_none c.args.self.now

pub loop-pid-preserved : goal.loop-pid-preserved
loop-pid-preserved g c =
    let old = c.args.self.now in
    let now = c.loop-pid.self in
    elim c.if-ne.branch [
      | then-ne+in_ok-perform w ↦
          subst (λ (x : Acts g.row.TOP). Extends old x) (sym w.self-is)
          (extends_then old now w.perform.new.self c.loop-pid.invariant
          w.in_ok-perform.ensures.goes_on)
      | else-ne w ↦
          subst (λ (x : Acts g.row.TOP). Extends old x) (sym w.self-is) c.loop-pid.invariant
    ]
