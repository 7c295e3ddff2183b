-- Untold events tell nothing, and each event of the process goes to the end with its mark.
use Rattle.std.proofs.Common.{◌+◌, ◌++◌, drop, get_or, append-nil, sym, ◌∙◌, ap, arith}
use Rattle.st_pair.proofs.ForCallers.{at_get_or, blank}
use Rattle.st_plan.specs.Marks.{told_events}
use Rattle.lack_needs.specs.Completions.{marked_with}
use Rattle.lack_needs.proofs.ForCallers.{told_end}
use Rattle.lack_acts.specs.Told.{told_of}
use Rattle.lack_acts.proofs.Telling.{event_kept}
use Rattle.lack_acts.proofs.insertion.merged.Goals as goal

pub loop-index-preserved : goal.loop-index-preserved
loop-index-preserved c =
    let es = c.args.events.now in
    let bs = c.args.marks.now in
    let i = c.loop-index.index in
    let e = get_or es i blank in
    let at = at_get_or es i blank c.loop-index-test.true in
    let rest = told_events (drop (i + 1) (marked_with es bs)) in
    let left = told_events (drop i (marked_with es bs)) in
    ap (λ ms. told_of ms ++ rest) c.in_ok-push.ensures.items
    ∙ event_kept _ c.add_untold.new.whole.items _ es bs i at (sym c.is_marked.ensures)
    (ap (λ ms. ms ++ left) c.in_ok-next.ensures.told ∙ c.loop-index.invariant)

pub returns : goal.returns
returns c =
    let whole = told_of c.loop-index.whole.items in
    let past = c.loop-index-test.false in
    let auto = c.loop-index.auto.index-end in
    c.in_ok-next-2.ensures.told
    ∙ sym (append-nil whole)
    ∙ ap (λ es. whole ++ es) (sym (told_end c.args.events.now c.args.marks.now c.loop-index.index
    (omega arith)))
    ∙ c.loop-index.invariant
