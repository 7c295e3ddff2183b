-- The fold goes on with the next event.
use Rattle.std.proofs.Common.{get_or, take, sym, ◌∙◌, ap, arith}
use Rattle.st_pair.proofs.ForCallers.{at_get_or, blank}
use Rattle.lack_needs.proofs.ForCallers.{left_more}
use Rattle.lack_acts.specs.Missing.{missing_before}
use Rattle.lack_acts.specs.Tallies.{counted_from, with_silence}
use Rattle.lack_acts.proofs.Counting.{counted_more, marked_end}
use Rattle.lack_acts.proofs.tallies.FlagTallies.count_process.Goals as goal

pub loop-index-preserved : goal.loop-index-preserved
loop-index-preserved c =
    let es = c.args.events.now in
    let i = c.loop-index.index in
    let e = get_or es i blank in
    let at = at_get_or es i blank c.loop-index-test.true in
    let left = c.loop-index.left in
    record {
      left = c.after-left.ensures (take i es) c.loop-index.invariant.left ∙ left_more es i e at;
      counts = counted_more _ c.loop-index.self _ left es c.args.marks.now i e _ at
          c.is_marked.ensures c.loop-index.invariant.left
          (c.count_silence.ensures
          ∙ ap (λ n. with_silence c.count.new.self n) c.missing_before.ensures
          ∙ ap (λ t. with_silence t (missing_before left e)) c.count.ensures)
          c.loop-index.invariant.counts;
    }

pub returns : goal.returns
returns c =
    let es = c.args.events.now in
    let i = c.loop-index.index in
    let past = c.loop-index-test.false in
    sym (ap (λ ms. counted_from c.loop-index.self (take i es) ms)
    (marked_end es c.args.marks.now i (omega arith)))
    ∙ c.loop-index.invariant.counts
