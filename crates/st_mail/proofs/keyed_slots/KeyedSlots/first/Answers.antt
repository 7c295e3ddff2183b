-- The first pair from (key, start) on has the key, or the key has no slot there.
use Rattle.std.proofs.Common.{None, Some, sym, ap, ◌∙◌}
use Rattle.std.specs.Ordering.{is_eq}
use Rattle.st_mail.proofs.PairLemmas.{kept_first, none_from, first_from, none_first}
use Rattle.st_mail.proofs.keyed_slots.KeyedSlots.first.Goals as goal

pub returns-in_err-found : goal.returns-in_err-found
returns-in_err-found g c =
    rw c.from_residual.ensures
    (kept_first g.K.Ord.cmp c.args.self.now _ c.in-Some.is c.args.key c.args.start None
    (none_from _ g.met.K.Ord.total c.in-Some.pairs c.args.key c.args.start _
    c.in_err-found.ensures.steps.0
    (c.range.ensures.in_range tt)))

pub returns-then-is_eq : goal.returns-then-is_eq
returns-then-is_eq g c =
    kept_first g.K.Ord.cmp c.args.self.now _ c.in-Some.is c.args.key c.args.start
    (Some c.in_ok-found.field-0.now.1)
    (first_from _ g.met.K.Ord.total c.in-Some.pairs c.args.key c.args.start _
    c.in_ok-found.field-0.now _
    c.in_ok-found.ensures.steps (c.range.ensures.in_range tt)
    (ap is_eq (sym c.cmp.ensures) ∙ sym c.is_eq.ensures ∙ c.if-is_eq.true))

pub returns-else-is_eq : goal.returns-else-is_eq
returns-else-is_eq g c =
    kept_first g.K.Ord.cmp c.args.self.now _ c.in-Some.is c.args.key c.args.start None
    (none_first _ g.met.K.Ord.total c.in-Some.pairs c.args.key c.args.start _
    c.in_ok-found.field-0.now _
    c.in_ok-found.ensures.steps (c.range.ensures.in_range tt)
    (ap is_eq (sym c.cmp.ensures) ∙ sym c.is_eq.ensures ∙ c.if-is_eq.false))
