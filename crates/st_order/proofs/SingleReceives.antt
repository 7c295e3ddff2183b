-- If no receive repeats another, each receive is the first from its sender with its count: there
-- is a first one, since the receive itself is there, and if the first were another receive, one of
-- the two would be a repeat.
use Rattle.std.proofs.Common.{◌≡◌, ℕ, ◌==◌, ◌&&◌, ◌||◌, true, false, cond, List, Some, None}
use Rattle.std.proofs.Common.{option_and_then, refl, sym, ◌∙◌, ap, if◌then◌else◌}
use Rattle.std.proofs.lemmas.Bool.{eqb-true, eq-eqb, and_parts, and_from}
use Rattle.std.proofs.lemmas.Option.{none-some}
use Rattle.st_core.specs.declared.types.Pid.{Pid}
use Rattle.st_core.specs.declared.types.Event.{Event}
use Rattle.st_core.specs.Pid.{pid_eq}
use Rattle.st_core.specs.Run.{Stream}
use Rattle.st_core.proofs.ForCallers.{pid_eq-true, pid_eq-same}
use Rattle.st_pair.specs.declared.answer.PairFault.TheVariants as fault
use Rattle.st_pair.specs.Places.{event_at, is_stamp, first}
use Rattle.st_pair.specs.Pairing.{receive_of, repeated}
use Rattle.st_pair.proofs.ForCallers.{event_none, got_rule, cond_none}

module _ (streams : List Stream) (p : Pid) (i : ℕ) (e : Event) (at : event_at streams p i ≡ Some e)
    (receive : is_stamp e ≡ false) where
  there : receive_of streams e.from e.serial.this ≡ None → ⊥
  there none =
      let given = event_none (got_rule e.from e.serial.this) streams none p i e at in
      let test : (pid_eq e.from e.from && e.serial.this == e.serial.this) ≡ true =
      and_from (pid_eq e.from e.from) (e.serial.this == e.serial.this) (pid_eq-same e.from)
      (eq-eqb e.serial.this e.serial.this refl) in
      let place : Pid × ℕ = (p, i) in
      none-some place (sym given
      ∙ ap
      (λ b. cond b None (cond (pid_eq e.from e.from && e.serial.this == e.serial.this)
      (Some place) None)) receive
      ∙ ap (λ b. cond b (Some place) None) test)

  pub only_receive : first (repeated streams) streams ≡ None
      → receive_of streams e.from e.serial.this ≡ Some (p, i)
  only_receive once =
      let given = event_none (repeated streams) streams once p i e at in
      let found = receive_of streams e.from e.serial.this in
      elim found as (λ o. found ≡ o
      → option_and_then (λ (x : Pid × ℕ). if is_stamp e || (pid_eq x.0 p && x.1 == i) then None else
      Some
      (fault.Repeated p i x.0 x.1)) o ≡ None → o ≡ Some (p, i)) [
        | None ↦ λ is h. absurd (there is)
        | Some x ↦ λ is h.
            let tests = cond_none (is_stamp e || (pid_eq x.0 p && x.1 == i))
            (fault.Repeated p i x.0 x.1) h in
            let parts = and_parts (pid_eq x.0 p) (x.1 == i)
            (ap (λ b. b || (pid_eq x.0 p && x.1 == i)) (sym receive) ∙ tests) in
            let who = pid_eq-true x.0 p parts.0 in
            let index = eqb-true x.1 i parts.1 in
            λ k. Some (who k, index k)
      ] refl given
