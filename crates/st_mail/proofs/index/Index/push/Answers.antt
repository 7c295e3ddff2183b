-- The message gets the next slot, and its own key is put into each set of keys.
use Rattle.std.proofs.Common.{◌≡◌, ◌+◌, ℕ, Some, List, [], ◌∷◌, ◌++◌, length, set, refl, ap, ◌∙◌}
use Rattle.std.proofs.Common.{arith}
use Rattle.std.proofs.lemmas.List.{length_push}
use Rattle.std.specs.Ordering.{nat_cmp, is_eq}
use Rattle.st_core.specs.Pid.{pid_cmp}
use Rattle.st_core.specs.declared.types.Message.{Message}
use Rattle.st_mail.specs.Index.{is_from, is_of_both, is_of_value, bears_key, pid_count_cmp}
use Rattle.st_mail.proofs.KeyLemmas.{keyed-push, value_key, from_key, both_key}
use Rattle.st_arena.proofs.ForCallers.{kept-put, marked_dead, ranks-put}
use Rattle.st_mail.proofs.index.Index.push.Goals as goal

pub mark_live-requires-clause-dead : goal.mark_live-requires-clause-dead
mark_live-requires-clause-dead c =
    let is = c.requires.index.is in
    marked_dead c.args.self.now.ranks is.slots is.has_slots.ranks c.args.self.now.used
    (omega (arith, is.has_slots.used))

pub returns-clause-pushed : goal.returns-clause-pushed
returns-clause-pushed c queue is =
    let old = c.args.self.now in
    let slots = is.slots in
    let has = is.has_slots in
    let m = c.args.message.now in
    let one_more : length (slots ++ Some m ∷ []) ≡ length slots + 1 = length_push slots (Some m) in
    let with_one = ranks-put old.ranks slots has.ranks m
    (omega (arith, has.used, c.requires.room)) in
    let written : c.mark_live.new.self ≡ set old.ranks (length slots) 1 =
    c.mark_live.ensures ∙ ap (λ (n : ℕ). set old.ranks n 1) has.used in
    record {
      slots = slots ++ Some m ∷ [];
      items = kept-put slots m ∙ ap (λ (ms : List Message). ms ++ m ∷ []) is.items;
      has_slots = record {
        used = omega (arith, one_more, has.used);
        ranks = rw written with_one;
        values =
            keyed-push nat_cmp is_of_value slots m (λ k. is_eq (nat_cmp m.value k)) (value_key m)
            old.values c.insert.new.self
            old.used has.used c.in_ok-insert.ensures.inserted c.in_ok-insert.ensures.kept
            has.values;
        senders =
            keyed-push pid_cmp is_from slots m (λ p. is_eq (pid_cmp m.from p)) (from_key m)
            old.senders c.insert-2.new.self
            old.used has.used c.in_ok-insert-2.ensures.inserted c.in_ok-insert-2.ensures.kept
            has.senders;
        pairs =
            keyed-push pid_count_cmp is_of_both slots m
            (λ k. is_eq (pid_count_cmp (m.from, m.value) k)) (both_key m)
            old.pairs c.insert-3.new.self old.used has.used c.in_ok-insert-3.ensures.inserted
            c.in_ok-insert-3.ensures.kept has.pairs;
        stamps =
            keyed-push pid_count_cmp bears_key slots m (λ k. bears_key k m) (λ k. refl) old.stamps
            c.insert_stamp.new.stamps
            old.used has.used (λ was k. c.in_ok-insert_stamp.ensures.inserted was k.0 k.1)
            c.in_ok-insert_stamp.ensures.kept has.stamps;
      };
    }
