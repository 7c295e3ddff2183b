-- The slot that has the place as its rank is emptied, and marked dead.
use Rattle.std.proofs.Common.{ap, ◌∙◌, arith, remove}
use Rattle.st_arena.proofs.ForCallers.{selected_inside, selected_take, ranks-take}
use Rattle.st_arena.proofs.ladder.Ladder.remove.Goals as goal

pub index_mut-requires : goal.index_mut-requires
index_mut-requires c =
    let inside =
    selected_inside c.self.inside.ranks c.self.inside.slots.items c.self.invariant c.in_ok-slot.slot
    c.args.place
    c.in_ok-slot.ensures.live c.in_ok-slot.ensures.rank in
    omega (arith, inside)

pub invariant_of-self : goal.invariant_of-self
invariant_of-self c =
    let slots = c.self.inside.slots.items in
    let slot = c.in_ok-slot.slot in
    let inside =
    selected_inside c.self.inside.ranks slots c.self.invariant slot c.args.place
    c.in_ok-slot.ensures.live
    c.in_ok-slot.ensures.rank in
    rw c.mark_dead.ensures (ranks-take c.self.inside.ranks slots c.self.invariant slot inside)

pub returns : goal.returns
returns c =
    selected_take c.self.inside.ranks c.self.inside.slots.items c.self.invariant c.in_ok-slot.slot
    c.args.place
    c.in_ok-slot.ensures.live c.in_ok-slot.ensures.rank
    ∙ ap (λ l. remove l c.args.place) c.self.view_is
