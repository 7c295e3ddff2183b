-- Each stray message so far has a listed receiver and two events to take out.
use Rattle.lack_acts.specs.Strays.{AreStrays}
use Rattle.lack_acts.proofs.strays.Strays.note_all.Given as goal

abbrev pub invariant-loop-process : goal.invariant-loop-process
invariant-loop-process l = AreStrays l.fn.streams l.self
