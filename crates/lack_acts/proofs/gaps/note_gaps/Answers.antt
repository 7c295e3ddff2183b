-- One more event changes what is left as it should, and its gap, if noted, is one of the streams.
use Rattle.std.proofs.Common.{◌∙◌, All, get_or, slice_get, sym, Some, take, ap, subst, ◌≡◌}
use Rattle.std.proofs.lemmas.List.Elements.{All-push}
use Rattle.st_pair.proofs.ForCallers.{at_get_or, blank}
use Rattle.lack_needs.proofs.ForCallers.{left_more}
use Rattle.st_core.specs.Streams.{events_of}
use Rattle.lack_acts.specs.Gaps.{IsGapIn}
use Rattle.lack_acts.proofs.Gathering.{gap_noted}
use Rattle.lack_acts.proofs.gaps.note_gaps.Goals as goal
use Rattle.lack_acts.proofs.gaps.note_gaps.Goals.{then-is_noted+in_ok-push, else-is_noted}

pub loop-index-preserved : goal.loop-index-preserved
loop-index-preserved c =
    let streams = c.args.streams.now in
    let p = c.args.pid in
    let i = c.loop-index.index in
    let all = c.events-event-items.result.now in
    let e = get_or all i blank in
    let at = subst (λ es. slice_get es i ≡ Some e) c.events-event-items.ensures.value
    (at_get_or all i blank c.loop-index-test.true) in
    let left = c.loop-index.invariant.left in
    record {
      left = c.after-left.ensures (take i (events_of streams p)) left
          ∙ left_more (events_of streams p) i e at;
      gaps = elim c.if-is_noted.branch [
        | then-is_noted+in_ok-push w ↦
            subst (All (IsGapIn streams))
            (sym (ap (λ v. v.items) w.gaps-is ∙ w.in_ok-push.ensures.items))
            (All-push (IsGapIn streams) c.loop-index.gaps.items c.before-gap.result
            c.loop-index.invariant.gaps
            (gap_noted streams p c.args.process i e c.loop-index.left _ c.before-gap.result
            c.requires.listed at (c.is_noted.ensures w.if-is_noted.true) left
            c.before-gap.ensures))
        | else-is_noted w ↦
            subst (All (IsGapIn streams)) (sym (ap (λ v. v.items) w.gaps-is))
            c.loop-index.invariant.gaps
      ];
    }
