-- The construction is in the state to which the items so far lead, and on their course.
use Rattle.std.proofs.Common.{take}
use Rattle.st_plan.specs.Moves.{earlier_of}
use Rattle.st_audit.specs.Progress.{IsMatched, IsSoFar}
use Rattle.st_audit.proofs.Course.{IsOnCourse}
use Rattle.st_audit.proofs.auditing.finding_in_order.Given as goal

abbrev pub invariant-loop-number : goal.invariant-loop-number
invariant-loop-number g l =
    record {
      so_far : IsSoFar l.streams (earlier_of l.streams (take l.number l.items)) l.construction;
      way : IsOnCourse g.row.TOP l.streams l.items l.number l.construction.world
          l.construction.acts;
      matched : IsMatched l.streams l.construction;
    }
