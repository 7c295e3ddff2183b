-- After room is made, the words and the newline wait in the buffer.
use Rattle.std.proofs.Common.{ℕ, List, [], ◌∷◌, ◌++◌, ap, append_assoc, ◌∙◌}
use Rattle.st_text.specs.Spelling.{ended_line}
use Rattle.st_text.proofs.Puts.{part_longer, goes_then, goes_buffer, on_err}
use Rattle.st_text.proofs.lines.write_line.Goals as goal

pub returns-in_err-make_room : goal.returns-in_err-make_room
returns-in_err-make_room g c =
    on_err _ _ _ _ c.from_residual.ensures.0
    (part_longer g.S.ByteSink.puts g.S.ByteSink.failed []
    (ended_line (g.L.TextLine.words c.args.line)) _
    c.in_err-make_room.ensures.goes)

pub returns : goal.returns
returns g c =
    goes_then g.S.ByteSink.puts g.S.ByteSink.failed [] (ended_line (g.L.TextLine.words c.args.line))
    c.in_ok-make_room.ensures.goes
    (goes_buffer g.S.ByteSink.puts g.S.ByteSink.failed
    (c.put_bytes.ensures.items ∙ ap (λ (xs : List ℕ). xs ++ 10 ∷ []) c.put_words.ensures.items
    ∙ append_assoc _ (g.L.TextLine.words c.args.line) (10 ∷ [])))
