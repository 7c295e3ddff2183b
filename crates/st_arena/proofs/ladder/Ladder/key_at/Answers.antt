-- The slot that has the place as its rank holds the key at the place.
use Rattle.std.proofs.Common.{ap, sym, ◌∙◌, arith, Some, slice_get}
use Rattle.std.proofs.lemmas.Option.{slice_get_past, slice_get-get_or, same_Some}
use Rattle.st_arena.proofs.ForCallers.{live-kept, selected_inside, selected_item}
use Rattle.st_arena.specs.Queue.{kept}
use Rattle.st_arena.proofs.ladder.Ladder.key_at.Goals as goal

pub returns-in_err-slot : goal.returns-in_err-slot
returns-in_err-slot c =
    let slots = c.self.inside.slots.items in
    let many = live-kept c.self.inside.ranks slots c.self.invariant in
    let past = slice_get_past (kept slots) c.args.place
    (omega (arith, many, c.in_err-slot.ensures.absent)) in
    c.from_residual.ensures ∙ sym past ∙ ap (λ l. slice_get l c.args.place) c.self.view_is

pub index-requires : goal.index-requires
index-requires c =
    let inside =
    selected_inside c.self.inside.ranks c.self.inside.slots.items c.self.invariant c.in_ok-slot.slot
    c.args.place
    c.in_ok-slot.ensures.live c.in_ok-slot.ensures.rank in
    omega (arith, inside)

pub returns : goal.returns
returns c =
    let slots = c.self.inside.slots.items in
    let slot = c.in_ok-slot.slot in
    let inside =
    selected_inside c.self.inside.ranks slots c.self.invariant slot c.args.place
    c.in_ok-slot.ensures.live
    c.in_ok-slot.ensures.rank in
    let item =
    selected_item c.self.inside.ranks slots c.self.invariant slot c.args.place
    c.in_ok-slot.ensures.live
    c.in_ok-slot.ensures.rank in
    let read = slice_get-get_or slots slot c.index.result.now inside in
    let same = same_Some _ _ (ap Some c.index.ensures ∙ sym read ∙ item) in
    same ∙ ap (λ l. slice_get l c.args.place) c.self.view_is
