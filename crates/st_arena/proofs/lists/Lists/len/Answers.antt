-- The length in the ends is the number of items.
use Rattle.std.proofs.Common.{ap}
use Rattle.st_arena.proofs.ListLemmas.{len_is}
use Rattle.st_arena.proofs.lists.Lists.len.Goals as goal

pub returns : goal.returns
returns g c =
    len_is _ _ _ _ c.self.invariant.0 _ (ap (λ a. a.lists) c.self.view_is) c.args.list c.requires _
    c.index.ensures
