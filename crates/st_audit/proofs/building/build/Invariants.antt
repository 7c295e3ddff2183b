-- The construction is in the state to which the items so far lead, and in plain streams on track.
use Rattle.std.proofs.Common.{take}
use Rattle.st_plan.specs.Moves.{earlier_of}
use Rattle.st_plan.specs.Plain.{IsPlain}
use Rattle.st_audit.specs.Progress.{IsMatched, IsSoFar}
use Rattle.st_audit.proofs.Track.{IsOnTrack}
use Rattle.st_audit.proofs.building.build.Given as goal

abbrev pub invariant-loop-number : goal.invariant-loop-number
invariant-loop-number g l =
    record {
      so_far : IsSoFar l.streams (earlier_of l.streams (take l.number l.items)) l.construction;
      track : IsPlain g.row.TOP l.streams → IsOnTrack g.row.TOP l.streams (g.M.Tells.marks l.marks)
          (take l.number l.items) l.construction.world l.construction.acts;
      matched : IsMatched l.streams l.construction;
    }
