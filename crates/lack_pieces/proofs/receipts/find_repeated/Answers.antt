-- The first repeated receipt so far is known, and the next receipt is repeated or not.
use Rattle.std.proofs.Common.{◌+◌, ◌-◌, get_or, length, sym, subst, arith}
use Rattle.st_pair.proofs.ForCallers.{at_get_or}
use Rattle.lack_pieces.specs.Firsts.{HoldsOfRank, IsEarliest}
use Rattle.lack_pieces.specs.Pieces.{Piece}
use Rattle.lack_pieces.proofs.Candidates.{first_of_all, found_wider}
use Rattle.lack_pieces.proofs.ReceivedCounts.{blank_receipt, repeat_found, repeat_holds}
use Rattle.lack_pieces.proofs.ReceivedCounts.{repeat_more, repeat_place, repeat_still}
use Rattle.lack_pieces.proofs.ReceivedCounts.{IsRepeatBelow}
use Rattle.lack_pieces.proofs.receipts.find_repeated.Goals as goal

pub loop-i-init : goal.loop-i-init
loop-i-init c = λ other r.
    omega (arith, r.is.next, r.within)

pub loop-i-preserved : goal.loop-i-preserved
loop-i-preserved c =
    let rs = c.args.receipts.now in
    let i = c.loop-i.i in
    let positive = c.loop-i.auto.i in
    let before = get_or rs (i - 1) blank_receipt in
    let receipt = get_or rs i blank_receipt in
    let at_first = at_get_or rs (i - 1) blank_receipt (omega arith) in
    let at = at_get_or rs i blank_receipt c.loop-i-test.true in
    elim c.if-before-receipt.branch [
      | goal.then-before-receipt w ↦ subst (IsEarliest (IsRepeatBelow rs (i + 1))) (sym w.least-is)
          (repeat_more rs i before receipt positive at_first at c.loop-i.least c.loop-i.invariant
          w.reason.result w.least_with.result w.if-before-receipt.true w.reason.ensures
          w.least_with.ensures)
      | goal.else-before-receipt w ↦ subst (IsEarliest (IsRepeatBelow rs (i + 1))) (sym w.least-is)
          (repeat_still rs i before receipt positive at_first at c.loop-i.least c.loop-i.invariant
          w.if-before-receipt.false)
    ]

pub returns : goal.returns
returns c = λ top pid events.
    let rs = c.args.receipts.now in
    let i = c.loop-i.i in
    let piece : Piece = record { pid = pid; events = events; receipts = rs } in
    first_of_all (IsRepeatBelow rs i) (HoldsOfRank top piece 2) c.loop-i.least
    (repeat_holds top piece c.requires i)
    (λ r h. let found = repeat_found top piece c.requires r h in
    (found.0, found_wider _ (repeat_place rs) (length rs) i _ c.loop-i-test.false found.1, found.2))
    c.loop-i.invariant
