-- The marks of the process go to the end.
use Rattle.std.proofs.Common.{Bool, List, [], ◌∷◌, ◌++◌, ◌∙◌, ap}
use Rattle.lack_acts.proofs.marked_streams.MarkedDraft.add.Goals as goal

pub returns-clause-marks : goal.returns-clause-marks
returns-clause-marks c = c.in_ok-push.ensures.items
    ∙ ap (λ (l : List Bool). c.args.self.now.marks.items ++ l ∷ [])
    (c.from_vec.ensures ∙ c.in_ok-marks.ensures)
