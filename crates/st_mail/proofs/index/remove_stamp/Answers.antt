-- A stamp is a pair of a pid and a count.
use Rattle.std.proofs.Common.{Bool, not, ◌==◌, ◌&&◌, sym, ap, ◌∙◌}
use Rattle.st_mail.specs.Index.{bears_stamp, pid_count_cmp}
use Rattle.st_mail.specs.KeyedSlots.{has_key}
use Rattle.st_mail.proofs.KeyLemmas.{stamp_key}
use Rattle.st_mail.proofs.index.remove_stamp.Goals as goal

pub returns-in-Some-clause-removed : goal.returns-in-Some-clause-removed
returns-in-Some-clause-removed c from this s =
    c.remove.ensures.removed (from, this) s
    ∙ ap (λ (b : Bool). not (b && c.args.slot == s) && has_key pid_count_cmp c.args.stamps.now
    (from, this) s)
    (stamp_key c.in-Some.token (from, this) ∙ ap (bears_stamp from this) (sym c.in-Some.is))
