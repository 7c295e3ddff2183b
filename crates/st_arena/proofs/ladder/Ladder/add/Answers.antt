-- The first unused slot is dead, and takes the key.
use Rattle.std.proofs.Common.{◌≡◌, ◌<◌, ◌++◌, ◌∷◌, [], length, set, ap, ◌∙◌, arith}
use Rattle.st_arena.proofs.ForCallers.{marked_dead, ranks-put, kept-put}
use Rattle.st_arena.specs.Queue.{kept}
use Rattle.st_arena.proofs.ladder.Ladder.add.Goals as goal

pub mark_live-requires-clause-dead : goal.mark_live-requires-clause-dead
mark_live-requires-clause-dead c =
    marked_dead c.self.inside.ranks c.self.inside.slots.items c.self.invariant c.len-slot.result
    (omega (arith, c.len-slot.ensures))

pub invariant_of-self : goal.invariant_of-self
invariant_of-self c =
    let ranks = c.self.inside.ranks in
    let slots = c.self.inside.slots.items in
    let at : c.len-slot.result ≡ length slots = omega (arith, c.len-slot.ensures) in
    let room : length slots < length ranks =
    omega (arith, at, c.len.ensures, c.if-slot-len.false) in
    let written : c.mark_live.new.self ≡ set ranks (length slots) 1 =
    c.mark_live.ensures ∙ ap (λ n. set ranks n 1) at in
    rw (written, c.in-Ok.ensures.items) (ranks-put ranks slots c.self.invariant c.args.key room)

pub returns : goal.returns
returns c =
    ap kept c.in-Ok.ensures.items
    ∙ kept-put c.self.inside.slots.items c.args.key
    ∙ ap (λ l. l ++ c.args.key ∷ []) c.self.view_is
