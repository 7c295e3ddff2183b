-- The acts so far go on from the old ones.
use Rattle.lack_acts.specs.Acts.{Extends}
use Rattle.lack_acts.proofs.lean.Acts.open.Given as goal

abbrev pub invariant-loop-pid : goal.invariant-loop-pid
invariant-loop-pid g l = Extends l.fn.self l.self
