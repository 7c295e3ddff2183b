-- A stamp is a pair of a pid and a count.
use Rattle.std.proofs.Common.{Bool, ◌==◌, ◌&&◌, ◌||◌, sym, ap, ◌∙◌}
use Rattle.st_mail.specs.Index.{bears_stamp, pid_count_cmp}
use Rattle.st_mail.specs.KeyedSlots.{has_key}
use Rattle.st_mail.proofs.KeyLemmas.{stamp_key}
use Rattle.st_mail.proofs.index.insert_stamp.Goals as goal

pub returns-in_ok-insert-clause-inserted : goal.returns-in_ok-insert-clause-inserted
returns-in_ok-insert-clause-inserted c kept from this s =
    c.in_ok-insert.ensures.inserted kept (from, this) s
    ∙ ap (λ (b : Bool). b && c.args.slot == s || has_key pid_count_cmp c.args.stamps.now
    (from, this) s)
    (stamp_key c.in-Some.token (from, this) ∙ ap (bears_stamp from this) (sym c.in-Some.is))
