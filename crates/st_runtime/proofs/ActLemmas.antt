-- The kind of an act says, case by case, what it asks of the processes that its locks held.
use Rattle.std.proofs.Common.{◌≡◌, ◌≢◌, ℕ, true, refl, sym, ap, ◌∙◌, subst}
use Rattle.st_core.specs.declared.types.Pid.{Pid}
use Rattle.st_core.specs.declared.types.Act.{Act}
use Rattle.st_core.specs.declared.types.Act.TheVariants as act
use Rattle.st_core.specs.declared.types.Want.{Want}
use Rattle.st_core.specs.Step.{actor, receiver}
use Rattle.st_core.proofs.ForCallers.{pid_eq-true}
use Rattle.st_runtime.specs.Pcb.{IsBetween, is_alone}

between_from : (a : Act) → receiver a ≢ actor a → IsBetween a (actor a) (receiver a)
between_from (act.Send p q v) apart = (λ same. apart (sym same), v, refl)
between_from (act.Receive p w) apart = absurd (apart refl)
between_from (act.Print p v) apart = absurd (apart refl)
between_from (act.PrintAt p n v) apart = absurd (apart refl)
between_from (act.Set p c) apart = absurd (apart refl)
between_from (act.Clear p) apart = absurd (apart refl)
between_from (act.Restore p t) apart = absurd (apart refl)
between_from (act.Look p) apart = absurd (apart refl)
between_from (act.Reset p) apart = absurd (apart refl)
between_from (act.Tracer p b) apart = absurd (apart refl)

pub between_at : (a : Act) (p q : Pid) → receiver a ≢ actor a → p ≡ actor a → q ≡ receiver a
    → IsBetween a p q
between_at a p q apart from to =
    subst (λ x. IsBetween a x q) (sym from)
    (subst (λ y. IsBetween a (actor a) y) (sym to) (between_from a apart))

-- a receive of the actor
pub alone_receive : (a : Act) (p me : Pid) (w : Want) → a ≡ act.Receive p w → actor a ≡ me
    → a ≡ act.Receive me w
alone_receive a p me w is mine = is ∙ ap (λ q. act.Receive q w) (sym (ap actor is) ∙ mine)

-- a send of the actor that touches it alone
pub alone_send : (a : Act) (p q me : Pid) (v : ℕ) → a ≡ act.Send p q v → is_alone a ≡ true
    → actor a ≡ me
    → a ≡ act.Send me me v
alone_send a p q me v is alone mine =
    let from : p ≡ me = sym (ap actor is) ∙ mine in
    let to : q ≡ me = sym (pid_eq-true p q (sym (ap is_alone is) ∙ alone)) ∙ from in
    is ∙ (λ i. act.Send (from i) (to i) v)
