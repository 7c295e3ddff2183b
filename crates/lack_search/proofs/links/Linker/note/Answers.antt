-- A row keeps its length if one of its links is replaced.
use Rattle.std.proofs.Common.{ℕ, length, Vec, Global, ◌∙◌, ap}
use Rattle.std.specs.Vec.{with_item}
use Rattle.std.proofs.lemmas.List.{length-set}
use Rattle.lack_search.proofs.Lists.{map_set_same}
use Rattle.lack_search.proofs.links.Linker.note.Goals as goal

pub returns-then-index-len : goal.returns-then-index-len
returns-then-index-len c =
    let row = c.index_mut-row.result.now in
    let i = c.args.end.index in
    let link = c.args.other.index in
    map_set_same (λ (v : Vec ℕ Global). length v.items) c.args.self.now.rows.items
    c.args.end.process (with_item row i link) row
    (length-set row.items i link
    ∙ ap (λ (v : Vec ℕ Global). length v.items) c.index_mut-row.ensures.value)
