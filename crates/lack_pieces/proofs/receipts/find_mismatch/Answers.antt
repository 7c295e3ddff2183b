-- A receipt is a mismatch, or has its send, or no send or print has its count.
use Rattle.std.proofs.Common.{◌+◌, true, false, get_or, length, sym, ◌∙◌, subst}
use Rattle.std.proofs.lemmas.Bool.{false≢true}
use Rattle.std.proofs.lemmas.Option.{slice_get_within}
use Rattle.st_core.specs.declared.types.Event.{Event}
use Rattle.st_pair.proofs.ForCallers.{at_get_or, blank}
use Rattle.lack_decide.specs.Answers.{IsSendOf}
use Rattle.lack_pieces.specs.Firsts.{HasCount, HoldsOfRank, IsEarliest}
use Rattle.lack_pieces.specs.Pieces.{Piece}
use Rattle.lack_pieces.proofs.Candidates.{first_of_all, found_wider}
use Rattle.lack_pieces.proofs.ReceivedCounts.{blank_receipt, mismatch_found, mismatch_holds}
use Rattle.lack_pieces.proofs.ReceivedCounts.{mismatch_more, mismatch_place, mismatch_still}
use Rattle.lack_pieces.proofs.ReceivedCounts.{none_has, one_stamp, passed_next, IsMismatchBelow}
use Rattle.lack_pieces.proofs.Walks.{at_same}
use Rattle.lack_pieces.proofs.receipts.find_mismatch.Goals as goal

pub loop-receipt-preserved : goal.loop-receipt-preserved
loop-receipt-preserved c =
    let es = c.args.events.now in
    let rs = c.args.receipts.now in
    let n = c.loop-receipt.receipt-index in
    let receipt = get_or rs n blank_receipt in
    let at = at_get_or rs n blank_receipt c.loop-receipt-test.true in
    let piece : Piece = record { pid = c.args.pid; events = es; receipts = rs } in
    let next = c.next_stamp-next.result in
    let is = c.next_stamp-next.ensures in
    let event = get_or es next blank in
    let order = c.requires.order in
    let passed = c.loop-receipt.invariant.passed in
    record {
      within = is.within;
      passed = passed_next es rs order n receipt at c.loop-receipt.next next passed is;
      least = elim c.if-has_count.branch [
        | goal.then-has_count+then-not-is_send_of w ↦
            let has = subst (HasCount es next receipt.event.serial.this) w.if-has_count.true
            c.has_count.ensures in
            let same = at_same es next event has.0 (at_get_or es next blank
            (slice_get_within es next has.0 has.1)) has.1 in
            subst (IsEarliest (IsMismatchBelow piece (n + 1))) (sym w.least-is)
            (mismatch_more piece n receipt at c.loop-receipt.least c.loop-receipt.invariant.least
            next has.0 w.reason.result w.least_with.result has.1 (is.here has.0 has.1).0 has.2
            (λ sent. false≢true (sym w.if-not-is_send_of.true ∙ w.is_send_of.ensures.1
            (subst (λ (f : Event). IsSendOf f receipt.event) (sym same) sent)))
            w.reason.ensures w.least_with.ensures)
        | goal.else-has_count w ↦
            subst (IsEarliest (IsMismatchBelow piece (n + 1))) (sym w.least-is)
            (mismatch_still piece n receipt at c.loop-receipt.least c.loop-receipt.invariant.least
            (λ k f there stamps count other. elim w.else-has_count.branch [
              | goal.else-has_count-via-then-has_count+else-not-is_send_of v ↦
                  let has = subst (HasCount es next receipt.event.serial.this)
                  v.if-has_count.true c.has_count.ensures in
                  let same = at_same es next event has.0 (at_get_or es next blank
                  (slice_get_within es next has.0 has.1)) has.1 in
                  let one = one_stamp es c.requires.rise next k has.0 f has.1 there
                  (is.here has.0 has.1).0 stamps (has.2 ∙ sym count) in
                  other (subst (λ (x : Event). IsSendOf x receipt.event) (same ∙ one)
                  (v.is_send_of.ensures.0 v.if-not-is_send_of.false))
              | goal.else-has_count-via-else-has_count v ↦
                  none_has es rs order n receipt at c.loop-receipt.next next passed is
                  c.requires.rise (subst (HasCount es next receipt.event.serial.this)
                  v.if-has_count.false c.has_count.ensures) k f there stamps count
            ]))
      ];
    }

pub returns : goal.returns
returns c = λ top.
    let rs = c.args.receipts.now in
    let n = c.loop-receipt.receipt-index in
    let piece : Piece = record { pid = c.args.pid; events = c.args.events.now; receipts = rs } in
    first_of_all (IsMismatchBelow piece n) (HoldsOfRank top piece 3) c.loop-receipt.least
    (mismatch_holds top piece c.requires.rise n)
    (λ r h. let found = mismatch_found top piece r h in (
      found.0,
      found_wider _ (mismatch_place piece) (length rs) n _ c.loop-receipt-test.false found.1,
      found.2,
    ))
    c.loop-receipt.invariant.least
