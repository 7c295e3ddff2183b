-- The root counts all live slots.
use Rattle.std.proofs.Common.{◌∙◌, sym, ap}
use Rattle.std.specs.List.{sum}
use Rattle.st_arena.specs.Tree.{count_at}
use Rattle.st_arena.proofs.BlockLemmas.{live-total}
use Rattle.st_arena.proofs.slots.Ranks.live.Goals as goal

pub returns : goal.returns
returns c =
    c.count_live.ensures
    ∙ ap (λ l. count_at l 1) c.deref.ensures.value
    ∙ sym (live-total c.self.inside.marks.items c.self.inside.counts.items c.self.inside.height
    c.self.invariant.0)
    ∙ ap sum c.self.view_is
