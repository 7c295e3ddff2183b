-- No act so far moved a count, and the acts so far are the tracers of the pids so far.
use Rattle.std.proofs.Common.{List, [], drop}
use Rattle.st_core.specs.Run.{Stream}
use Rattle.st_audit.specs.Progress.{IsMatched, IsSoFar}
use Rattle.st_audit.proofs.Tracers.{Opens}
use Rattle.st_audit.proofs.construction.Construction.open.Given as goal

abbrev pub invariant-loop-pid : goal.invariant-loop-pid
invariant-loop-pid g l =
    record {
      so_far : (streams : List Stream) → IsSoFar streams [] l.initial.self
          → IsSoFar streams [] l.self;
      opens : Opens l.pids l.node (drop l.pid-index l.pids) l.initial.self l.self;
      matched : IsMatched l.streams l.self;
    }
