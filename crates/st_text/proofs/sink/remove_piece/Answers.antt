-- The bytes after the piece move to the front, and no others stay.
use Rattle.std.proofs.Common.{◌≡◌, ◌+◌, ◌-◌, length, take, drop, ap, ◌∙◌, arith, rules, length-drop}
use Rattle.std.proofs.Common.{take_all}
use lib.Seq.{paste}
use Rattle.std.proofs.lemmas.List.Edits.{take-paste}
use Rattle.arrayvec.proofs.ArrayVecLemmas.{items-with_items}
use Rattle.st_text.specs.Room.{piece_room}
use Rattle.st_text.proofs.sink.remove_piece.Goals as goal

pub returns-clause-items : goal.returns-clause-items
returns-clause-items c =
    let all = c.as_mut_slice.result.now in
    let left = c.len-len.result - piece_room in
    let behind = drop piece_room all in
    let long : length all ≡ c.len-len.result = search rules in
    let same : left ≡ 0 + left = omega arith in
    let rest : length behind ≡ left = omega (arith, length-drop piece_room all) in
    c.truncate.ensures.items
    ∙ ap (take left)
    (items-with_items c.args.buffer.now c.copy_within.new.self (search rules)
    ∙ c.copy_within.ensures.after)
    ∙ ap (λ k. take k (paste all 0 behind left)) same
    ∙ take-paste all 0 behind left (omega arith) (omega arith)
    ∙ take_all left behind (omega arith) ∙ ap (drop piece_room) c.as_mut_slice.ensures.value
