-- An act that isn't one of a whole node touches its actor and a send's receiver alone.
use Rattle.std.proofs.Common.{sym, ◌∙◌, subst}
use Rattle.st_core.specs.declared.types.Pid.{Pid}
use Rattle.st_core.proofs.ForCallers.{pid_eq-true}
use Rattle.st_runtime.specs.Joining.{HasAt}
use Rattle.st_runtime.proofs.PartLemmas.{match_test}
use Rattle.st_runtime.proofs.Legal.{on_true, on_false}
use Rattle.st_runtime.proofs.Wholeness.{whole_of_two, whole_of_wide, whole_receiver}
use Rattle.st_runtime.proofs.join.whole.is_shared.Goals as goal

pub returns-then-is_wide : goal.returns-then-is_wide
returns-then-is_wide g c =
    let xs = c.args.processes.now in
    let e = c.args.entry.now in
    match_test c.is_everywhere.result _ _
    (λ yes. whole_of_wide xs e (sym c.is_wide.ensures ∙ c.if-is_wide.true) c.requires.made
    (on_true c.is_everywhere.result _ _ yes c.is_everywhere.ensures))
    (λ no whole. on_false c.is_everywhere.result _ _ no c.is_everywhere.ensures whole.everywhere)

pub returns-then-eq : goal.returns-then-eq
returns-then-eq g c =
    let xs = c.args.processes.now in
    let e = c.args.entry.now in
    let At : Pid → Type 0 = λ p. HasAt xs p e in
    match_test c.eq.result _ _
    (λ yes. whole_of_two xs e c.requires.held.rising (sym c.is_wide.ensures ∙ c.if-is_wide.false)
    c.requires.made
    (subst At (sym (pid_eq-true _ _ (sym c.eq.ensures ∙ c.if-eq.true))
    ∙ c.receiver_of-receiver.ensures)
    c.requires.held.here))
    (λ no. cc)

pub returns-else-eq : goal.returns-else-eq
returns-else-eq g c =
    let xs = c.args.processes.now in
    let e = c.args.entry.now in
    let At : Pid → Type 0 = λ p. HasAt xs p e in
    match_test c.has_at.result _ _
    (λ yes. whole_of_two xs e c.requires.held.rising (sym c.is_wide.ensures ∙ c.if-is_wide.false)
    c.requires.made
    (subst At c.receiver_of-receiver.ensures (on_true c.has_at.result _ _ yes c.has_at.ensures)))
    (λ no whole. on_false c.has_at.result _ _ no c.has_at.ensures
    (subst At (sym c.receiver_of-receiver.ensures) (whole_receiver xs e whole)))
