-- A list has as many items as its ends say.
use Rattle.std.proofs.Common.{ap}
use Rattle.st_arena.proofs.ListLemmas.{whole}
use Rattle.st_arena.proofs.lists.Lists.walk.Goals as goal

pub new-requires : goal.new-requires
new-requires g c =
    whole _ _ _ _ c.self.invariant.0 _ (ap (λ a. a.lists) c.self.view_is) c.args.list c.requires _
    c.index-ends.ensures
