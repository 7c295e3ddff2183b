-- The acts so far go on from the old ones.
use Rattle.lack_acts.specs.Acts.{Extends}
use Rattle.lack_acts.proofs.lean.Acts.append_all.Given as goal

abbrev pub invariant-loop-item : goal.invariant-loop-item
invariant-loop-item g l = Extends l.fn.self l.self
