-- The slot at the place is the message's, and loses the message's keys.
use Rattle.std.proofs.Common.{◌≡◌, ◌<◌, Some, None, List, length, set, slice_get, remove, refl, sym}
use Rattle.std.proofs.Common.{ap, ◌∙◌, arith}
use Rattle.std.proofs.lemmas.List.{length-set}
use Rattle.std.proofs.lemmas.Option.{slice_get_within}
use Rattle.std.specs.Ordering.{nat_cmp, is_eq}
use Rattle.st_core.specs.Pid.{pid_cmp}
use Rattle.st_core.specs.declared.types.Message.{Message}
use Rattle.st_mail.specs.Index.{is_from, is_of_both, is_of_value, bears_key, pid_count_cmp}
use Rattle.st_mail.specs.Slots.{item_at}
use Rattle.st_arena.specs.Queue.{kept}
use Rattle.st_arena.proofs.ForCallers.{kept-take, ranks-take}
use Rattle.st_mail.proofs.IndexLemmas.{total-of, item-at, rank-of}
use Rattle.st_mail.proofs.KeyLemmas.{keyed-set, value_key, from_key, both_key}
use Rattle.st_mail.proofs.SlotLemmas.{inside, item-get}
use Rattle.st_mail.proofs.index.Index.remove.Goals as goal

pub returns-in_default-clause-removed : goal.returns-in_default-clause-removed
returns-in_default-clause-removed c queue is at =
    let total = total-of c.args.self.now is.slots is.has_slots in
    let below : c.args.place < length queue =
    slice_get_within queue c.args.place c.args.message.now at in
    absurd (omega (arith, total, below, ap length is.items, c.in_default.ensures.absent))

pub returns-clause-removed : goal.returns-clause-removed
returns-clause-removed c queue is at =
    let old = c.args.self.now in
    let slots = is.slots in
    let has = is.has_slots in
    let m = c.args.message.now in
    let slot = c.in-Some.slot in
    let there : item_at slots slot ≡ Some m =
    item-at old slots has slot c.args.place m c.in-Some.ensures.live c.in-Some.ensures.rank
    (ap (λ (ms : List Message). slice_get ms c.args.place) is.items ∙ at) in
    let as_long : length (set slots slot None) ≡ length slots = length-set slots slot None in
    let within : slot < length slots = inside slots slot m there in
    let without = ranks-take old.ranks slots has.ranks slot within in
    record {
      slots = set slots slot None;
      items =
          kept-take slots slot m (item-get slots slot m there)
          ∙ ap (remove (kept slots))
          (sym (rank-of old slots has slot m there) ∙ c.in-Some.ensures.rank)
          ∙ ap (λ (ms : List Message). remove ms c.args.place) is.items;
      has_slots = record {
        used = has.used ∙ sym as_long;
        ranks = rw c.mark_dead.ensures without;
        values =
            keyed-set nat_cmp is_of_value slots m (λ k. is_eq (nat_cmp m.value k)) (value_key m)
            slot there old.values
            c.remove.new.self c.remove.ensures.removed c.remove.ensures.kept has.values;
        senders =
            keyed-set pid_cmp is_from slots m (λ p. is_eq (pid_cmp m.from p)) (from_key m) slot
            there old.senders
            c.remove-2.new.self c.remove-2.ensures.removed c.remove-2.ensures.kept has.senders;
        pairs =
            keyed-set pid_count_cmp is_of_both slots m
            (λ k. is_eq (pid_count_cmp (m.from, m.value) k)) (both_key m) slot there
            old.pairs c.remove-3.new.self c.remove-3.ensures.removed c.remove-3.ensures.kept
            has.pairs;
        stamps =
            keyed-set pid_count_cmp bears_key slots m (λ k. bears_key k m) (λ k. refl) slot there
            old.stamps
            c.remove_stamp.new.stamps (λ k. c.remove_stamp.ensures.removed k.0 k.1)
            c.remove_stamp.ensures.kept has.stamps;
      };
    }
