-- The slab has the node, and the nodes next to it whose links are mended.
use Rattle.std.proofs.Common.{ap, is_some, ◌∙◌, sym}
use Rattle.st_arena.proofs.ChainLemmas.{held_after, back_there, front_there, is_some-value_in}
use Rattle.st_arena.proofs.chain.unlink.Goals as goal

pub remove-value-requires : goal.remove-value-requires
remove-value-requires g c =
    rw c.requires.at_place (held_after _ _ c.requires.chained c.args.place c.requires.in_range)

pub mend_next-first-requires : goal.mend_next-first-requires
mend_next-first-requires g c some =
    let back =
    back_there _ _ c.requires.chained c.args.place c.args.key _ c.requires.in_range
    c.requires.at_place
    c.remove-value.ensures.value some in
    ap is_some (c.remove-value.ensures.updates.others _ back.1) ∙ back.0

pub mend_previous-last-requires-clause-there : goal.mend_previous-last-requires-clause-there
mend_previous-last-requires-clause-there g c more =
    let front =
    front_there _ _ c.requires.chained c.args.place c.args.key _ c.requires.in_range
    c.requires.at_place
    c.remove-value.ensures.value more in
    sym (is_some-value_in _)
    ∙ ap is_some (c.mend_next-first.ensures.links.items_stay _)
    ∙ is_some-value_in _
    ∙ ap is_some (c.remove-value.ensures.updates.others _ front.1)
    ∙ front.0
