-- The first reason of a kind is the verdict if the kinds before have none.
use Rattle.std.proofs.Common.{List}
use Rattle.st_core.specs.declared.types.Event.{Event}
use Rattle.st_core.specs.declared.types.Pid.{Pid}
use Rattle.lack_pieces.specs.declared.placed_reason.Receipt.{Receipt}
use Rattle.lack_pieces.specs.Pieces.{Piece}
use Rattle.lack_pieces.proofs.Walks.{first_in, none_below, none_more, verdict_in}
use Rattle.lack_pieces.proofs.judge.judge_piece.Goals as goal

abbrev piece_of : Pid → List Event → List Receipt → Piece
piece_of pid es rs = record { pid = pid; events = es; receipts = rs }

pub returns-in-Some : goal.returns-in-Some
returns-in-Some g c =
    let T = g.row.TOP in
    let rs = c.args.receipts.now in
    let piece = piece_of c.args.pid c.args.events.now rs in
    first_in T piece 0 c.in-Some.found (none_below T piece) (c.in-Some.ensures T rs)

pub returns-in-Some-find_not_rising : goal.returns-in-Some-find_not_rising
returns-in-Some-find_not_rising g c =
    let T = g.row.TOP in
    let rs = c.args.receipts.now in
    let piece = piece_of c.args.pid c.args.events.now rs in
    let below1 = none_more T piece 0 (none_below T piece) (c.in_default.ensures T rs) in
    first_in T piece 1 c.in-Some-find_not_rising.found below1
    (c.in-Some-find_not_rising.ensures.first T rs)

pub returns-in-Some-find_repeated : goal.returns-in-Some-find_repeated
returns-in-Some-find_repeated g c =
    let T = g.row.TOP in
    let rs = c.args.receipts.now in
    let piece = piece_of c.args.pid c.args.events.now rs in
    let below1 = none_more T piece 0 (none_below T piece) (c.in_default.ensures T rs) in
    let below2 = none_more T piece 1 below1 (c.in_default-find_not_rising.ensures.first T rs) in
    first_in T piece 2 c.in-Some-find_repeated.found below2
    (c.in-Some-find_repeated.ensures T c.args.pid c.args.events.now)

pub returns-in-Some-find_mismatch : goal.returns-in-Some-find_mismatch
returns-in-Some-find_mismatch g c =
    let T = g.row.TOP in
    let rs = c.args.receipts.now in
    let piece = piece_of c.args.pid c.args.events.now rs in
    let below1 = none_more T piece 0 (none_below T piece) (c.in_default.ensures T rs) in
    let below2 = none_more T piece 1 below1 (c.in_default-find_not_rising.ensures.first T rs) in
    let below3 = none_more T piece 2 below2
    (c.in_default-find_repeated.ensures T c.args.pid c.args.events.now) in
    first_in T piece 3 c.in-Some-find_mismatch.found below3 (c.in-Some-find_mismatch.ensures T)

pub returns-in-Some-find_late : goal.returns-in-Some-find_late
returns-in-Some-find_late g c =
    let T = g.row.TOP in
    let rs = c.args.receipts.now in
    let piece = piece_of c.args.pid c.args.events.now rs in
    let below1 = none_more T piece 0 (none_below T piece) (c.in_default.ensures T rs) in
    let below2 = none_more T piece 1 below1 (c.in_default-find_not_rising.ensures.first T rs) in
    let below3 = none_more T piece 2 below2
    (c.in_default-find_repeated.ensures T c.args.pid c.args.events.now) in
    let below4 = none_more T piece 3 below3 (c.in_default-find_mismatch.ensures T) in
    first_in T piece 4 c.in-Some-find_late.found below4 (c.in-Some-find_late.ensures T rs)

pub returns-in-Some-find_unfounded : goal.returns-in-Some-find_unfounded
returns-in-Some-find_unfounded g c =
    let T = g.row.TOP in
    let rs = c.args.receipts.now in
    let piece = piece_of c.args.pid c.args.events.now rs in
    let below1 = none_more T piece 0 (none_below T piece) (c.in_default.ensures T rs) in
    let below2 = none_more T piece 1 below1 (c.in_default-find_not_rising.ensures.first T rs) in
    let below3 = none_more T piece 2 below2
    (c.in_default-find_repeated.ensures T c.args.pid c.args.events.now) in
    let below4 = none_more T piece 3 below3 (c.in_default-find_mismatch.ensures T) in
    let below5 = none_more T piece 4 below4 (c.in_default-find_late.ensures T rs) in
    first_in T piece 5 c.in-Some-find_unfounded.found below5 (c.in-Some-find_unfounded.ensures T)

pub returns : goal.returns
returns g c =
    let T = g.row.TOP in
    let rs = c.args.receipts.now in
    let piece = piece_of c.args.pid c.args.events.now rs in
    let below1 = none_more T piece 0 (none_below T piece) (c.in_default.ensures T rs) in
    let below2 = none_more T piece 1 below1 (c.in_default-find_not_rising.ensures.first T rs) in
    let below3 = none_more T piece 2 below2
    (c.in_default-find_repeated.ensures T c.args.pid c.args.events.now) in
    let below4 = none_more T piece 3 below3 (c.in_default-find_mismatch.ensures T) in
    let below5 = none_more T piece 4 below4 (c.in_default-find_late.ensures T rs) in
    let below6 = none_more T piece 5 below5 (c.in_default-find_unfounded.ensures T) in
    verdict_in T piece c.find_too_high.result below6 (c.find_too_high.ensures rs)
