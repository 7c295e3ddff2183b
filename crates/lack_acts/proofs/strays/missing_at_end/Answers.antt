-- The fold goes on with the next event.
use Rattle.std.proofs.Common.{get_or, take, sym, ◌∙◌, ap, arith}
use Rattle.st_pair.proofs.ForCallers.{at_get_or, blank}
use Rattle.lack_needs.proofs.ForCallers.{left_more}
use Rattle.lack_acts.specs.Missing.{missing_at_end}
use Rattle.lack_acts.proofs.Counting.{ended_more, marked_end}
use Rattle.lack_acts.proofs.strays.missing_at_end.Goals as goal

pub loop-index-preserved : goal.loop-index-preserved
loop-index-preserved c =
    let es = c.args.events.now in
    let i = c.loop-index.index in
    let e = get_or es i blank in
    let at = at_get_or es i blank c.loop-index-test.true in
    record {
      left = c.after-left.ensures (take i es) c.loop-index.invariant.left ∙ left_more es i e at;
      missing = ended_more _ c.loop-index.missing _ c.loop-index.left es c.args.marks.now i e _ at
          c.is_marked.ensures c.loop-index.invariant.left c.missing_with-missing.ensures
          c.loop-index.invariant.missing;
    }

pub returns : goal.returns
returns c =
    let es = c.args.events.now in
    let i = c.loop-index.index in
    let past = c.loop-index-test.false in
    sym (ap (λ ms. missing_at_end c.loop-index.missing (take i es) ms)
    (marked_end es c.args.marks.now i (omega arith)))
    ∙ c.loop-index.invariant.missing
