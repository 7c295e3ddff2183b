-- An event is a send or print with at least the count, or is passed.
use Rattle.std.proofs.Common.{◌≡◌, ◌≤◌, ◌<◌, true, length, get_or}
use Rattle.std.proofs.Common.{sym, ◌∙◌, subst, arith}
use Rattle.std.proofs.lemmas.Bool.{false≢true}
use Rattle.std.proofs.lemmas.Option.{slice_get_within}
use Rattle.st_core.specs.declared.types.Event.{Event}
use Rattle.st_pair.specs.Places.{is_stamp}
use Rattle.st_pair.proofs.ForCallers.{at_get_or, blank}
use Rattle.lack_pieces.proofs.Walks.{at_same}
use Rattle.lack_needs.proofs.ForCallers.{more_passed}
use Rattle.lack_pieces.proofs.receipts.next_stamp.Goals as goal

pub returns-then-count-events : goal.returns-then-count-events
returns-then-count-events c =
    let es = c.args.events.now in
    let i = c.loop-i.i in
    let e = get_or es i blank in
    record {
      behind = c.loop-i.auto.i;
      within = omega arith;
      passed = c.loop-i.invariant;
      here = λ f at.
          let same = at_same es i e f (at_get_or es i blank c.loop-i-test.true) at in (
            subst (λ (x : Event). is_stamp x ≡ true) same
                (sym c.is_stamp.ensures ∙ c.if-is_stamp.true),
            subst (λ (x : Event). c.args.count ≤ x.serial.this) same c.if-count-events.true,
          );
    }

pub loop-i-preserved : goal.loop-i-preserved
loop-i-preserved c = λ k f after less there.
    let es = c.args.events.now in
    let i = c.loop-i.i in
    let e = get_or es i blank in
    more_passed (λ k (f : Event). c.args.from ≤ k → is_stamp f ≡ true
    → f.serial.this < c.args.count) es i e (at_get_or es i blank c.loop-i-test.true)
    (λ k f low there after. c.loop-i.invariant k f after low there)
    (λ _ stamps. elim c.else-is_stamp.branch [
      | goal.else-is_stamp-via-then-is_stamp+else-count-events w ↦ w.if-count-events.false
      | goal.else-is_stamp-via-else-is_stamp w ↦ absurd (false≢true (sym w.if-is_stamp.false
          ∙ (c.is_stamp.ensures ∙ stamps)))
    ]) k f less there after

pub returns : goal.returns
returns c = record {
  behind = c.requires;
  within = omega arith;
  passed = λ k f after less at. c.loop-i.invariant k f after (omega (arith, less)) at;
  here = λ f at.
      absurd (omega (arith, slice_get_within c.args.events.now (length c.args.events.now) f at));
}
