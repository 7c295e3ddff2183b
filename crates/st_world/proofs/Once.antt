-- If a stamp occurs once in a queue, a search can find only one message by it; and each stamp
-- occurs once as long as no act is a reset.
use Rattle.std.proofs.Common.{◌≡◌, ℕ, ◌==◌, zero, suc, true, false, List, [], ◌∷◌, Option, Some}
use Rattle.std.proofs.Common.{None, IfSome, Result, Ok, Err, slice_get, refl, sym, ◌∙◌, ap, subst}
use Rattle.std.specs.List.{AllByRecursion}
use Rattle.std.proofs.lemmas.Bool.{and_parts, eqb-true, false≢true}
use Rattle.std.proofs.lemmas.Option.{none-some, same_Some}
use Rattle.st_core.specs.declared.types.Pid.{Pid}
use Rattle.st_core.specs.declared.types.Token.{Token}
use Rattle.st_core.specs.declared.types.Message.{Message}
use Rattle.st_core.specs.declared.types.Act.{Act}
use Rattle.st_core.specs.declared.types.Act.TheVariants as act
use Rattle.st_core.specs.Laws.{AreApart, HasStampsOnce, is_reset, StampsStandOnce}
use Rattle.st_core.specs.State.{Process, State, process}
use Rattle.st_core.specs.Pid.{pid_eq}
use Rattle.st_core.proofs.ForCallers.{pid_same, step_once}
use Rattle.st_arena.specs.Calls.{PassesOnce}
use Rattle.st_mail.specs.Mail.{bears_stamp}
use Rattle.st_mail.specs.declared.outcome.Outcome.{Outcome as Told}
use Rattle.st_world.specs.declared.outcome.StepFault.{StepFault}
use Rattle.st_world.specs.World.{IsStep, outcome_to}

-- the message has a token with the from `from` and the own count `this`
record Bears (from : Pid) (this : ℕ) (m : Message) : Type 0 where
  token : Token
  has : m.token ≡ Some token
  by : token.from ≡ from
  count : token.serial.this ≡ this

bears : (from : Pid) (this : ℕ) (m : Message) → bears_stamp from this m.token ≡ true
    → Bears from this m
bears from this m h = elim m.token as (λ o. m.token ≡ o → bears_stamp from this o ≡ true
    → Bears from this m) [
      | None ↦ λ _ h. absurd (false≢true h)
      | Some t ↦ λ has h.
          let parts = and_parts (pid_eq t.from from) (t.serial.this == this) h in
          record {
            token = t;
            has = has;
            by = pid_same t.from from parts.0;
            count = eqb-true t.serial.this this parts.1;
          }
    ] refl h

-- two messages whose stamps differ don't both have one stamp
never_both : (from : Pid) (this : ℕ) (m n : Message) → AreApart m n
    → bears_stamp from this m.token ≡ true
    → bears_stamp from this n.token ≡ true → ⊥
never_both from this m n apart one other =
    let a = bears from this m one in
    let b = bears from this n other in
    apart a.token b.token a.has b.has (a.by ∙ sym b.by) (a.count ∙ sym b.count)

each : {X : Type 0} (P : X → Type 0) (xs : List X) (k : ℕ) (x : X) → AllByRecursion P xs
    → slice_get xs k ≡ Some x → P x
each P [] k x all at = absurd (none-some x at)
each P (y ∷ xs) zero x all at = subst P (same_Some y x at) all.0
each P (y ∷ xs) (suc k) x all at = each P xs k x all.1 at

pub stands_once : (from : Pid) (this : ℕ) (queue : List Message) → StampsStandOnce queue
    → PassesOnce (λ (m : Message). bears_stamp from this m.token) queue
stands_once from this [] once i j x y at_x at_y p q = absurd (none-some x at_x)
stands_once from this (m ∷ ms) once zero zero x y at_x at_y p q = refl
stands_once from this (m ∷ ms) once zero (suc j) x y at_x at_y p q =
    let first = ap (λ (n : Message). bears_stamp from this n.token) (same_Some m x at_x) ∙ p in
    absurd (never_both from this m y (each (AreApart m) ms j y once.0 at_y) first q)
stands_once from this (m ∷ ms) once (suc i) zero x y at_x at_y p q =
    let first = ap (λ (n : Message). bears_stamp from this n.token) (same_Some m y at_y) ∙ q in
    absurd (never_both from this m x (each (AreApart m) ms i x once.0 at_x) first p)
stands_once from this (m ∷ ms) once (suc i) (suc j) x y at_x at_y p q =
    ap suc (stands_once from this ms once.1 i j x y at_x at_y p q)

-- so at most one message of each queue has the stamp, if stamps occur once in the state
pub one_in : (s : State) (p from : Pid) (this : ℕ) → HasStampsOnce s
    → IfSome (process s p) (λ r. PassesOnce (λ (m : Message). bears_stamp from this m.token)
    r.queue)
one_in s p from this is = by (process s p) refl
  where
    by : (o : Option Process) → process s p ≡ o
        → IfSome o (λ r. PassesOnce (λ (m : Message). bears_stamp from this m.token) r.queue)
    by None _ = tt
    by (Some r) e = stands_once from this r.queue (is.once p r e)

no_reset : (a : Act) → ((p : Pid) → a ≡ act.Reset p → ⊥) → is_reset a ≡ false
no_reset (act.Reset p) other = absurd (other p refl)
no_reset a other = refl

-- stamps still occur once after any act but a reset, whether it is refused or not
pub kept_once : (top : ℕ) (s : State) (a : Act) (r : Result Told StepFault) (new : State)
    → IsStep top s a r new
    → ((p : Pid) → a ≡ act.Reset p → ⊥) → HasStampsOnce s → HasStampsOnce new
kept_once top s a (Ok told) new is other once =
    step_once top s a (outcome_to told new) is.steps (no_reset a other) once
kept_once top s a (Err f) new is other once = subst HasStampsOnce (sym is.stays) once
