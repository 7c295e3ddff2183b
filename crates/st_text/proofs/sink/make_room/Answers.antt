-- The piece is the front of the waiting bytes, and the bytes after it wait on. If less than a
-- piece waits, nothing has to be written.
use Rattle.std.proofs.Common.{◌≡◌, ◌++◌, ◌∙◌, ap, take, drop, sym}
use Rattle.std.proofs.lemmas.List.{take-append-drop}
use Rattle.st_text.specs.Room.{piece_room}
use Rattle.st_text.proofs.Puts.{goes_still, front_went, front_failed, on_err}
use Rattle.st_text.proofs.sink.make_room.Goals as goal

pub returns-in_err-put_all-clause-goes : goal.returns-in_err-put_all-clause-goes
returns-in_err-put_all-clause-goes g c =
    let waited = c.args.buffer.now.items in
    let piece = take piece_room waited in
    let parts : waited ≡ piece ++ drop piece_room waited =
    sym (take-append-drop piece_room waited) in
    let same = c.split_at.ensures.front ∙ ap (take piece_room) c.as_slice.ensures.value in
    on_err _ _ _ _ c.from_residual.ensures.0
    (front_failed g.S.ByteSink.puts g.S.ByteSink.failed _ piece (drop piece_room waited) parts same
    c.in_err-put_all.ensures)

pub returns-in_ok-put_all-clause-goes : goal.returns-in_ok-put_all-clause-goes
returns-in_ok-put_all-clause-goes g c =
    let waited = c.args.buffer.now.items in
    let piece = take piece_room waited in
    let parts : waited ≡ piece ++ drop piece_room waited =
    sym (take-append-drop piece_room waited) in
    let same = c.split_at.ensures.front ∙ ap (take piece_room) c.as_slice.ensures.value in
    rw c.remove_piece.ensures.items
    (front_went g.S.ByteSink.puts g.S.ByteSink.failed _ piece (drop piece_room waited) parts same
    c.in_ok-put_all.ensures)

pub returns-else-len-ge-PIECE-clause-goes : goal.returns-else-len-ge-PIECE-clause-goes
returns-else-len-ge-PIECE-clause-goes g c = goes_still g.S.ByteSink.puts g.S.ByteSink.failed
