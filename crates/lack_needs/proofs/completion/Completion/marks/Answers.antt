-- The streams with their marks are the completion's whole streams.
use Rattle.std.proofs.Common.{sym, ◌∙◌, ap}
use Rattle.st_plan.specs.Marks.{all_streams}
use Rattle.lack_needs.specs.Completions.{wholes_with, Completed}
use Rattle.lack_needs.proofs.Kept.{all_kept}
use Rattle.lack_needs.proofs.completion.Completion.marks.Goals as goal

pub returns : goal.returns
returns c =
    let streams = c.self.inside.streams in
    ap (λ ss. wholes_with ss c.deref.result.now)
    (ap (λ (x : Completed). all_streams x.wholes) (sym c.self.view_is)
    ∙ all_kept streams c.self.inside.told.items)
    ∙ ap (wholes_with streams) c.deref.ensures.value
    ∙ ap (λ (x : Completed). x.wholes) c.self.view_is
