-- The set has the new pair, and of the other pairs those that it had.
use Rattle.std.proofs.Common.{Bool, ◌==◌, ◌&&◌, ◌||◌, sym, ap, ◌∙◌}
use Rattle.std.specs.Ordering.{is_eq}
use Rattle.st_mail.proofs.PairLemmas.{both_equal, cond_or, kept_keys}
use Rattle.st_mail.proofs.keyed_slots.KeyedSlots.insert.Goals as goal

pub returns-in-Ok-clause-inserted : goal.returns-in-Ok-clause-inserted
returns-in-Ok-clause-inserted g c kept k s =
    let cmp = g.K.Ord.cmp in
    c.in-Ok.ensures.updates.0 (k, s)
    ∙ cond_or _ _ _ (both_equal (cmp c.args.key k) c.args.slot s)
    ∙ ap (λ (b : Bool). is_eq (cmp c.args.key k) && c.args.slot == s || b)
    (sym (kept_keys cmp c.args.self.now _ c.in-Some.is k s))
