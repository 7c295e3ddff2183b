-- The set doesn't have the removed pair, and has the others as before.
use Rattle.std.proofs.Common.{Bool, not, ◌==◌, ◌&&◌, sym, ap, ◌∙◌}
use Rattle.std.specs.Ordering.{is_eq}
use Rattle.st_mail.proofs.PairLemmas.{both_equal, cond_and, kept_keys}
use Rattle.st_mail.proofs.keyed_slots.KeyedSlots.remove.Goals as goal

pub returns-in-Some-clause-removed : goal.returns-in-Some-clause-removed
returns-in-Some-clause-removed g c k s =
    let cmp = g.K.Ord.cmp in
    c.remove.ensures.updates.0 (k, s)
    ∙ cond_and _ _ _ (both_equal (cmp c.args.key k) c.args.slot s)
    ∙ ap (λ (b : Bool). not (is_eq (cmp c.args.key k) && c.args.slot == s) && b)
    (sym (kept_keys cmp c.args.self.now _ c.in-Some.is k s))
