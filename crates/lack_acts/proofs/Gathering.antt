-- A noted gap is one of the streams, since what the events before it leave is known.
use Rattle.std.proofs.Common.{◌≡◌, ℕ, true, Bool, List, take, slice_get, Some, refl, sym}
use Rattle.std.proofs.Common.{◌∙◌, ap, subst}
use Rattle.st_core.specs.declared.types.Pid.{Pid}
use Rattle.st_core.specs.declared.types.Event.{Event}
use Rattle.st_core.specs.Run.{Stream, pids_of}
use Rattle.st_core.specs.Streams.{events_of}
use Rattle.st_pair.specs.Places.{is_stamp}
use Rattle.lack_needs.specs.declared.flaws.Left.{Left}
use Rattle.lack_needs.specs.Flaws.{left_by}
use Rattle.lack_acts.specs.declared.gaps.Gap.{Gap}
use Rattle.lack_acts.specs.Gaps.{gap_before, IsGapIn}

pub gap_noted : (streams : List Stream) (p : Pid) (process i : ℕ) (e : Event) (left : Left)
    (behind : Bool) (g : Gap) → slice_get (pids_of streams) process ≡ Some p
    → slice_get (events_of streams p) i ≡ Some e → is_stamp e ≡ true
    → left ≡ left_by (take i (events_of streams p))
    → g ≡ gap_before process i e.label e.serial left behind → IsGapIn streams g
gap_noted streams p process i e left behind g listed at stamps leaves is =
    subst (IsGapIn streams)
    (sym (is ∙ ap (λ l. gap_before process i e.label e.serial l behind) leaves)) (record {
      pid = p;
      event = e;
      listed = listed;
      at = at;
      stamps = stamps;
      is = refl;
    })
