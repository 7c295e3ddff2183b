-- A receipt is unfounded, or the first so far stays.
use Rattle.std.proofs.Common.{◌+◌, true, false, get_or, refl, sym, ◌∙◌, subst, arith}
use Rattle.std.proofs.lemmas.Bool.{false≢true}
use Rattle.std.proofs.lemmas.Option.{none-some, slice_get_within}
use Rattle.st_pair.proofs.ForCallers.{at_get_or}
use Rattle.lack_pieces.specs.Firsts.{HasCount, IsEarliest}
use Rattle.lack_pieces.specs.Lowest.{IsUnfoundedReceipt}
use Rattle.lack_pieces.specs.Pieces.{Piece}
use Rattle.lack_pieces.proofs.Candidates.{first_of_all}
use Rattle.lack_pieces.proofs.Founding.{unfounded_more, unfounded_still, IsUnfoundedBelow}
use Rattle.lack_pieces.proofs.ReceivedCounts.{blank_receipt, none_has, passed_next, stamp_none}
use Rattle.lack_pieces.proofs.ReceivedCounts.{stamp_some}
use Rattle.lack_pieces.proofs.unfounded_events.find_unfounded_receipt.Goals as goal

pub loop-receipt-preserved : goal.loop-receipt-preserved
loop-receipt-preserved c =
    let es = c.args.events.now in
    let rs = c.args.receipts.now in
    let n = c.loop-receipt.receipt-index in
    let receipt = get_or rs n blank_receipt in
    let at = at_get_or rs n blank_receipt c.loop-receipt-test.true in
    let next = c.next_stamp-next.result in
    let is = c.next_stamp-next.ensures in
    let order = c.requires.order in
    let passed = c.loop-receipt.invariant.passed in
    record {
      within = is.within;
      passed = passed_next es rs order n receipt at c.loop-receipt.next next passed is;
      least = λ pid lowest.
          let piece : Piece = record { pid = pid; events = es; receipts = rs } in
          elim c.if-receipt-eq0.branch [
            | goal.then-receipt-eq0+then-not-has_count+then-is_behind_stamp w ↦
                subst (IsEarliest (IsUnfoundedBelow piece (n + 1))) (sym w.least-is)
                (unfounded_more piece n receipt at c.loop-receipt.least
                (c.loop-receipt.invariant.least pid lowest) w.reason.result w.least_with.result
                w.if-receipt-eq0.true (stamp_none piece receipt.event.serial.this
                (none_has es rs order n receipt at c.loop-receipt.next next passed is
                c.requires.rise (subst (HasCount es next receipt.event.serial.this)
                w.if-not-has_count.true w.has_count.ensures)))
                ((w.is_behind_stamp.ensures piece lowest).0 w.if-is_behind_stamp.true)
                w.reason.ensures w.least_with.ensures)
            | goal.else-receipt-eq0 w ↦
                subst (IsEarliest (IsUnfoundedBelow piece (n + 1))) (sym w.least-is)
                (unfounded_still piece n receipt at c.loop-receipt.least
                (c.loop-receipt.invariant.least pid lowest) (λ zero_prev hidden behind.
                elim w.else-receipt-eq0.branch [
                  | goal.else-receipt-eq0-via-then-receipt-eq0+then-not-has_count+else-is_behind_stamp
                      v ↦
                      false≢true (sym v.if-is_behind_stamp.false
                      ∙ (v.is_behind_stamp.ensures piece lowest).1 behind)
                  | goal.else-receipt-eq0-via-then-receipt-eq0+else-not-has_count v ↦
                      let has = subst (HasCount es next receipt.event.serial.this)
                      v.if-not-has_count.false v.has_count.ensures in
                      none-some (next, has.0) (sym hidden ∙ stamp_some piece c.requires.rise
                      receipt.event.serial.this next has.0 has.1 (is.here has.0 has.1).0 has.2)
                  | goal.else-receipt-eq0-via-else-receipt-eq0 v ↦ v.if-receipt-eq0.false zero_prev
                ]))
          ];
    }

pub returns : goal.returns
returns c = λ pid lowest.
    let rs = c.args.receipts.now in
    let n = c.loop-receipt.receipt-index in
    let piece : Piece = record { pid = pid; events = c.args.events.now; receipts = rs } in
    first_of_all (IsUnfoundedBelow piece n) (IsUnfoundedReceipt piece) c.loop-receipt.least
    (λ r u. u.is)
    (λ r t. (
      r,
      record {
        is = t;
        within = omega (arith, slice_get_within rs t.hidden.0.place _ t.hidden.0.at);
      },
      record { pid = refl; index = refl },
    )) (c.loop-receipt.invariant.least pid lowest)
