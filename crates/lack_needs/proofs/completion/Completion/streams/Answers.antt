-- Marks change no event.
use Rattle.std.proofs.Common.{◌∙◌, sym, ap}
use Rattle.st_plan.specs.Marks.{all_streams}
use Rattle.lack_needs.specs.Completions.{Completed}
use Rattle.lack_needs.proofs.Kept.{all_kept}
use Rattle.lack_needs.proofs.completion.Completion.streams.Goals as goal

pub returns : goal.returns
returns c = sym (ap (λ (x : Completed). all_streams x.wholes) (sym c.self.view_is) ∙ all_kept _ _)
