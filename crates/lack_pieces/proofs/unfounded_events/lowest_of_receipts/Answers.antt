-- The first receipt with another prev has the lowest count, since counts rise.
use Rattle.std.proofs.Common.{◌≡◌, get_or, arith}
use Rattle.std.proofs.lemmas.Option.{slice_get_within}
use Rattle.st_pair.proofs.ForCallers.{at_get_or}
use Rattle.lack_pieces.specs.declared.placed_reason.Receipt.{Receipt}
use Rattle.lack_pieces.proofs.Founding.{lowest_receipt}
use Rattle.lack_pieces.proofs.ReceivedCounts.{blank_receipt}
use Rattle.lack_needs.proofs.ForCallers.{more_passed}
use Rattle.lack_pieces.proofs.unfounded_events.lowest_of_receipts.Goals as goal

pub returns-then-receipt-ne0 : goal.returns-then-receipt-ne0
returns-then-receipt-ne0 c =
    let rs = c.args.receipts.now in
    let i = c.loop-receipt.receipt-index in
    lowest_receipt rs i (get_or rs i blank_receipt) c.requires
    (at_get_or rs i blank_receipt c.loop-receipt-test.true) (omega (arith, c.if-receipt-ne0.true))
    c.loop-receipt.invariant

pub loop-receipt-preserved : goal.loop-receipt-preserved
loop-receipt-preserved c =
    let rs = c.args.receipts.now in
    let i = c.loop-receipt.receipt-index in
    more_passed (λ _ (r : Receipt). r.event.serial.prev ≡ 0) rs i (get_or rs i blank_receipt)
    (at_get_or rs i blank_receipt c.loop-receipt-test.true) c.loop-receipt.invariant
    c.if-receipt-ne0.false

pub returns : goal.returns
returns c = λ count s.
    let within = slice_get_within c.args.receipts.now s.place s.receipt s.at in
    omega (arith, c.loop-receipt.invariant s.place s.receipt (omega (arith, within)) s.at, s.above)
