-- `last` is the last event so far whose count isn't lower.
use Rattle.lack_decide.specs.Higher.{LastHigher}
use Rattle.lack_decide.proofs.decision.last_higher.Given as goal

abbrev pub invariant-loop-i : goal.invariant-loop-i
invariant-loop-i l = LastHigher l.events l.this l.i l.last
