-- Invented sends tell nothing.
use Rattle.std.proofs.Common.{[], length}
use Rattle.lack_search.specs.Assembly.{AddsTold}
use Rattle.lack_search.proofs.assembly.Assembly.add_sends.Given as goal

abbrev pub invariant-loop-send : goal.invariant-loop-send
invariant-loop-send l = AddsTold l.pid [] l.fn.self l.self

abbrev pub decreases-loop-send : goal.decreases-loop-send
decreases-loop-send l = length l.left
