-- The walk over the sorted ends gives each end its number.
use Rattle.std.proofs.Common.{◌≡◌, get_or, length, take, Some, refl, ◌∙◌, ap, arith, sym, subst}
use Rattle.std.specs.List.{count_by, slice_get}
use Rattle.std.proofs.Math.ListN.{length-set}
use Rattle.std.proofs.lemmas.List.{length-replicate}
use Rattle.std.proofs.lemmas.Option.{same_Some}
use Rattle.node_streams.specs.declared.ends.End.{End}
use Rattle.node_streams.specs.Messages.{content_of}
use Rattle.node_streams.specs.Tables.{AreByContent, alike, ends_from}
use Rattle.node_streams.proofs.AlikeEnds.{all_told, number_is, told_more}
use Rattle.node_streams.proofs.SortedEnds.{end_of}
use Rattle.node_streams.proofs.alike.alike_before.Goals as goal
use Rattle.st_pair.proofs.ForCallers.{at_get_or, blank}

pub loop-end-init : goal.loop-end-init
loop-end-init c = record {
  size = ap length (c.in_ok-numbers.ensures.items_if_clones_equal (λ y same. same))
      ∙ length-replicate (length c.args.events.now) 0;
  told = λ k x less. absurd (omega arith);
  first = λ _. refl;
  last = λ k x next. absurd (omega arith);
}

pub loop-end-preserved : goal.loop-end-preserved
loop-end-preserved c =
    let es = c.args.events.now in
    let v = c.deref-end-items.result.now in
    let are = subst (AreByContent (ends_from c.args.kind 0 es))
    (sym c.deref-end-items.ensures.value) c.in_ok-ends.ensures in
    let i = c.loop-end.end-index in
    let x = get_or v i (end_of (content_of blank)) in
    let at = at_get_or v i (end_of (content_of blank)) c.loop-end-test.true in
    let so_far = c.loop-end.invariant in
    let is = number_is c.args.kind es v are i x c.loop-end.last c.loop-end.number
    c.in_ok-number.number at so_far.first so_far.last c.in_ok-number.ensures in
    record {
      size = ap length c.put.ensures ∙ length-set _ _ _ ∙ so_far.size;
      told = told_more c.args.kind es v are i c.in_ok-number.number x
          c.loop-end.numbers.items c.put.new.numbers.items at so_far.size is c.put.ensures
          so_far.told;
      first = λ zero. absurd (omega arith);
      last = λ k y next at_y.
          let place : i ≡ k = omega arith in
          let same : x ≡ y = same_Some x y (sym at ∙ ap (slice_get v) place ∙ at_y) in (
            ap (λ (w : End). Some w.content) same,
            is ∙ ap (λ (w : End). count_by (alike w.content) (take i v)) same
                ∙ ap (λ m. count_by (alike y.content) (take m v)) place,
          );
    }

pub returns : goal.returns
returns c =
    let es = c.args.events.now in
    let v = c.deref-end-items.result.now in
    let are = subst (AreByContent (ends_from c.args.kind 0 es))
    (sym c.deref-end-items.ensures.value) c.in_ok-ends.ensures in
    let past = c.loop-end-test.false in
    all_told c.args.kind es v are c.loop-end.numbers.items
    (λ j z less. c.loop-end.invariant.told j z (omega arith))
