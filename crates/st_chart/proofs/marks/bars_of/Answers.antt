-- The first n of many bars are n bars.
use Rattle.std.proofs.Common.{◌∙◌, List, ℕ, ap, codes}
use Rattle.std.specs.List.{flat_map}
use Rattle.std.proofs.lemmas.List.{take-replicate}
use Rattle.st_chart.proofs.Bars.{bars_flat}
use Rattle.st_chart.proofs.marks.bars_of.Goals as goal

pub returns : goal.returns
returns c =
    let part = take-replicate c.args.count 256 (codes "   |") c.requires in
    c.as_flattened.ensures.value ∙ ap (λ (rows : List (List ℕ)). flat_map (λ t. t) rows) part
    ∙ bars_flat c.args.count
