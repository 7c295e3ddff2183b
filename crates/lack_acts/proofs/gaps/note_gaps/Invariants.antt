-- `left` is what the events taken so far leave, and each gap so far is one of the streams.
use Rattle.std.proofs.Common.{◌≡◌, take, All}
use Rattle.st_core.specs.Streams.{events_of}
use Rattle.lack_needs.specs.Flaws.{left_by}
use Rattle.lack_acts.specs.Gaps.{IsGapIn}
use Rattle.lack_acts.proofs.gaps.note_gaps.Given as goal

abbrev pub invariant-loop-index : goal.invariant-loop-index
invariant-loop-index l = record {
  left : l.left ≡ left_by (take l.index (events_of l.fn.streams l.fn.pid));
  gaps : All (IsGapIn l.fn.streams) l.gaps.items;
}
