-- Each event that is taken out is untold, and any other goes to the end with its mark.
use Rattle.std.proofs.Common.{◌+◌, ◌++◌, drop, get_or, append-nil, sym, ◌∙◌, ap, arith}
use Rattle.st_pair.proofs.ForCallers.{at_get_or, blank}
use Rattle.st_plan.specs.Marks.{told_events}
use Rattle.lack_needs.specs.Completions.{marked_with}
use Rattle.lack_needs.proofs.ForCallers.{told_end}
use Rattle.lack_acts.specs.Told.{told_of}
use Rattle.lack_acts.proofs.Telling.{event_dropped, event_kept}
use Rattle.lack_acts.proofs.strays.Strays.kept.Goals as goal
use Rattle.lack_acts.proofs.strays.Strays.kept.Goals.{then-is_removed, else-is_removed+in_ok-push}

pub loop-index-preserved : goal.loop-index-preserved
loop-index-preserved c =
    let es = c.args.events.now in
    let bs = c.args.marks.now in
    let i = c.loop-index.index in
    let e = get_or es i blank in
    let at = at_get_or es i blank c.loop-index-test.true in
    let rest = told_events (drop (i + 1) (marked_with es bs)) in
    let mark = sym c.is_marked-is_told.ensures in
    elim c.if-is_removed.branch [
      | then-is_removed w ↦
          ap (λ v. told_of v.items ++ rest) w.stay-is
          ∙ event_dropped _ c.loop-index.stay.items e es bs i at
          (mark ∙ c.is_removed.ensures.untold w.if-is_removed.true) c.loop-index.invariant
      | else-is_removed+in_ok-push w ↦
          ap (λ v. told_of v.items ++ rest) w.stay-is
          ∙ ap (λ ms. told_of ms ++ rest) w.in_ok-push.ensures.items
          ∙ event_kept _ c.loop-index.stay.items _ es bs i at mark c.loop-index.invariant
    ]

pub returns : goal.returns
returns c =
    let stay = told_of c.loop-index.stay.items in
    let past = c.loop-index-test.false in
    let auto = c.loop-index.auto.index-end in
    sym (append-nil stay)
    ∙ ap (λ es. stay ++ es) (sym (told_end c.args.events.now c.args.marks.now c.loop-index.index
    (omega arith)))
    ∙ c.loop-index.invariant
