-- The acts so far go on from the old ones.
use Rattle.lack_acts.specs.Acts.{Extends}
use Rattle.lack_acts.proofs.lean.Acts.climb.Given as goal

abbrev pub invariant-loop : goal.invariant-loop
invariant-loop g l = Extends l.fn.self l.self
