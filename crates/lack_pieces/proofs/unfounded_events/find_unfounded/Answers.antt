-- The first unfounded stamp and the first unfounded receipt are known, and so the first of both.
use Rattle.lack_pieces.specs.declared.unfounded_events.Lowest.{Lowest}
use Rattle.lack_pieces.specs.Lowest.{IsLowestIn}
use Rattle.lack_pieces.specs.Pieces.{Piece}
use Rattle.lack_pieces.proofs.Founding.{first_both, first_stamp}
use Rattle.lack_pieces.proofs.unfounded_events.find_unfounded.Goals as goal

pub returns-in-None : goal.returns-in-None
returns-in-None c = λ top.
    let rs = c.args.receipts.now in
    let piece : Piece = record { pid = c.args.pid; events = c.args.events.now; receipts = rs } in
    let lowest : Lowest =
    record { stamps = c.lowest_of_stamps.result; receipts = c.lowest_of_receipts.result } in
    let is : IsLowestIn piece lowest = record {
      stamps = c.lowest_of_stamps.ensures;
      receipts = c.lowest_of_receipts.ensures;
    } in
    first_stamp top piece c.find_unfounded_stamp-stamp.result
    (c.find_unfounded_stamp-stamp.ensures rs is) (c.in-None.ensures c.args.pid is)

pub returns-in-Some : goal.returns-in-Some
returns-in-Some c = λ top.
    let rs = c.args.receipts.now in
    let piece : Piece = record { pid = c.args.pid; events = c.args.events.now; receipts = rs } in
    let lowest : Lowest =
    record { stamps = c.lowest_of_stamps.result; receipts = c.lowest_of_receipts.result } in
    let is : IsLowestIn piece lowest = record {
      stamps = c.lowest_of_stamps.ensures;
      receipts = c.lowest_of_receipts.ensures;
    } in
    first_both top piece c.find_unfounded_stamp-stamp.result c.in-Some.receipt c.least_with.result
    (c.find_unfounded_stamp-stamp.ensures rs is) (c.in-Some.ensures c.args.pid is)
    c.least_with.ensures
