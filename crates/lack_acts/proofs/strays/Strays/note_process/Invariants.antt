-- Each stray message so far has a listed receiver and two events to take out.
use Rattle.lack_acts.specs.Strays.{AreStrays}
use Rattle.lack_acts.proofs.strays.Strays.note_process.Given as goal

abbrev pub invariant-loop-index : goal.invariant-loop-index
invariant-loop-index l = AreStrays l.fn.streams l.self
