-- There are as many live slots as nodes, and each holds its node's key.
use Rattle.std.proofs.Common.{◌≡◌, ◌-◌, ◌++◌, length, ap, sym, ◌∙◌}
use Rattle.std.specs.Prelude.{replicate}
use Rattle.slab.specs.Slab.{get}
use Rattle.st_arena.specs.Chain.{node_keys}
use Rattle.st_arena.proofs.LadderLemmas.{length-keys}
use Rattle.st_arena.proofs.ForCallers.{ranks-new, kept-map_Some}
use Rattle.st_arena.specs.Queue.{kept}
use Rattle.st_arena.proofs.ladder.Ladder.new.Goals as goal

pub invariant_of-result : goal.invariant_of-result
invariant_of-result g c =
    let ranks = c.in_ok-ranks.ranks in
    let items = node_keys (get c.args.nodes.now) c.args.ends in
    let len : length items ≡ c.args.ends.len =
    length-keys (get c.args.nodes.now) c.args.ends.len c.args.ends.first in
    let marks : ranks ≡ replicate (length items) 1 ++ replicate (length ranks - c.args.ends.len) 0 =
    c.in_ok-ranks.ensures.marks
    ∙ ap (λ n. replicate n 1 ++ replicate (length ranks - c.args.ends.len) 0) (sym len) in
    rw c.in_ok-push_keys.ensures (ranks-new ranks items (length ranks - c.args.ends.len) marks)

pub returns : goal.returns
returns g c =
    ap kept c.in_ok-push_keys.ensures ∙ kept-map_Some (node_keys (get c.args.nodes.now) c.args.ends)
