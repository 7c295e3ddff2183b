-- The rank of the first slot that has the key is the place.
use Rattle.std.proofs.Common.{ℕ, Option, Some, option_map, take, sym, ap, subst, ◌∙◌}
use Rattle.std.specs.List.{sum}
use Rattle.st_mail.specs.Index.{is_of_both, pid_count_cmp}
use Rattle.st_mail.specs.KeyedSlots.{has_key, IsFirst}
use Rattle.st_mail.proofs.IndexLemmas.{in_ranks, place_first}
use Rattle.st_mail.proofs.index.Index.find_both.Goals as goal

pub returns-in_err-slot : goal.returns-in_err-slot
returns-in_err-slot c queue is =
    let index = c.args.self.now in
    c.from_residual.ensures
    ∙ ap (option_map (λ s. sum (take s index.ranks))) (sym c.in_err-slot.was)
    ∙ place_first index is.slots is.has_slots pid_count_cmp is_of_both index.pairs
    is.has_slots.pairs c.requires.kept (c.args.from, c.args.value) queue is.items
    c.first.result c.first.ensures

pub rank-requires : goal.rank-requires
rank-requires c =
    let index = c.args.self.now in
    let has = c.requires.index.is.has_slots in
    in_ranks index c.requires.index.is.slots has pid_count_cmp is_of_both index.pairs has.pairs
    c.requires.kept
    (c.args.from, c.args.value) 0 c.in_ok-slot.slot
    (subst (λ (o : Option ℕ). IsFirst
    (has_key pid_count_cmp index.pairs (c.args.from, c.args.value)) 0 o) c.in_ok-slot.was
    c.first.ensures)

pub returns : goal.returns
returns c queue is =
    let index = c.args.self.now in
    ap (λ n. Some n) c.rank.ensures
    ∙ ap (option_map (λ s. sum (take s index.ranks))) (sym c.in_ok-slot.was)
    ∙ place_first index is.slots is.has_slots pid_count_cmp is_of_both index.pairs
    is.has_slots.pairs c.requires.kept (c.args.from, c.args.value) queue is.items
    c.first.result c.first.ensures
