-- From the slot of the place on, the rank of the first slot that has the key is the first place.
use Rattle.std.proofs.Common.{ℕ, Option, Some, option_map, take, sym, ap, subst, ◌∙◌}
use Rattle.std.specs.List.{sum}
use Rattle.st_mail.specs.Index.{bears_key, pid_count_cmp}
use Rattle.st_mail.specs.KeyedSlots.{has_key, IsFirst}
use Rattle.st_mail.proofs.IndexLemmas.{in_ranks, place_from, place_none}
use Rattle.st_mail.proofs.index.Index.find_stamp.Goals as goal

pub returns-in_err-behind : goal.returns-in_err-behind
returns-in_err-behind c queue is =
    let index = c.args.self.now in
    c.from_residual.ensures
    ∙ place_none index is.slots is.has_slots pid_count_cmp bears_key index.stamps
    is.has_slots.stamps c.requires.kept
    (c.args.from, c.args.this) queue is.items c.args.start c.in_err-behind.ensures.absent

pub returns-in_err-slot : goal.returns-in_err-slot
returns-in_err-slot c queue is =
    let index = c.args.self.now in
    c.from_residual-in_err-slot.ensures
    ∙ ap (option_map (λ s. sum (take s index.ranks))) (sym c.in_err-slot.was)
    ∙ place_from index is.slots is.has_slots pid_count_cmp bears_key index.stamps
    is.has_slots.stamps c.requires.kept
    (c.args.from, c.args.this) queue is.items c.in_ok-behind.behind c.args.start c.first.result
    c.in_ok-behind.ensures.live c.in_ok-behind.ensures.rank c.first.ensures

pub rank-requires : goal.rank-requires
rank-requires c =
    let index = c.args.self.now in
    let has = c.requires.index.is.has_slots in
    in_ranks index c.requires.index.is.slots has pid_count_cmp bears_key index.stamps has.stamps
    c.requires.kept (c.args.from, c.args.this)
    c.in_ok-behind.behind c.in_ok-slot.slot
    (subst (λ (o : Option ℕ).
    IsFirst (has_key pid_count_cmp index.stamps (c.args.from, c.args.this)) c.in_ok-behind.behind o)
    c.in_ok-slot.was c.first.ensures)

pub returns : goal.returns
returns c queue is =
    let index = c.args.self.now in
    ap (λ n. Some n) c.rank.ensures
    ∙ ap (option_map (λ s. sum (take s index.ranks))) (sym c.in_ok-slot.was)
    ∙ place_from index is.slots is.has_slots pid_count_cmp bears_key index.stamps
    is.has_slots.stamps c.requires.kept
    (c.args.from, c.args.this) queue is.items c.in_ok-behind.behind c.args.start c.first.result
    c.in_ok-behind.ensures.live c.in_ok-behind.ensures.rank c.first.ensures
