-- A world begins with all counts at zero, and a tracer changes no count.
use Rattle.std.proofs.Common.{◌≡◌, ℕ, Bool, true, false, cond, List, [], ◌∷◌, Some, refl, sym, ◌∙◌}
use Rattle.std.proofs.Common.{ap, subst}
use Rattle.std.proofs.lemmas.Option.{same_Some, none-some}
use Rattle.st_core.specs.declared.types.Pid.{Pid}
use Rattle.st_core.specs.declared.types.Act.TheVariants as act
use Rattle.st_core.specs.Pid.{pid_eq}
use Rattle.st_core.specs.State.{LocalState, Process, State, process, zero_local, zero_state}
use Rattle.st_core.specs.Step.{Acted, Outcome, step}
use Rattle.st_core.proofs.ForCallers.{pid_same}
use Rattle.st_audit.specs.Progress.{AreAllCounted, IsCounted}
use Rattle.st_audit.proofs.Counts.{HaveSame, actor_same, others_same}

zero_counted : (pids : List Pid) → AreAllCounted [] (zero_state pids)
zero_counted [] x r h = absurd (none-some r h)
zero_counted (p ∷ pids) x r h =
    let made : Process = record { pid = p; local = zero_local; queue = [] } in
    elim (pid_eq p x) as (λ b. cond b (Some made) (process (zero_state pids) x) ≡ Some r
    → IsCounted [] x r.local) [
      | true ↦ λ h. subst (λ (y : Process). IsCounted [] x y.local) (same_Some made r h)
          (record { clocked = refl; lasted = refl })
      | false ↦ λ h. zero_counted pids x r h
    ] h

pub begins : (pids : List Pid) (s : State) → s ≡ zero_state pids → AreAllCounted [] s
begins pids s is = subst (AreAllCounted []) (sym is) (zero_counted pids)

counted_as : (l m : LocalState) (x : Pid) → HaveSame l m → IsCounted [] x m → IsCounted [] x l
counted_as l m x same was = record {
  clocked = same.clocked ∙ was.clocked;
  lasted = same.lasted ∙ was.lasted;
}

pub tracer_counted : (top : ℕ) (s : State) (p : Pid) (b : Bool) (o : Outcome)
    → step top s (act.Tracer p b) ≡ Some o
    → AreAllCounted [] s → AreAllCounted [] o.after
tracer_counted top s p b o h counted x r is =
    elim (pid_eq x p) as (λ c. pid_eq x p ≡ c → IsCounted [] x r.local) [
      | true ↦ λ e.
          let who = pid_same x p e in
          let was = actor_same top s (act.Tracer p b) o h tt r
          (ap (process o.after) (sym who) ∙ is) in
          let done : was.before.local ≡ was.done.local = ap (λ (d : Acted). d.local)
          (same_Some _ was.done was.is_done) in
          let so = counted p was.before was.is_before in
          record {
            clocked = was.same.clocked ∙ ap (λ (l : LocalState). l.clock) (sym done) ∙ so.clocked;
            lasted = was.same.lasted ∙ ap (λ (l : LocalState). l.last) (sym done) ∙ so.lasted;
          }
      | false ↦ λ e.
          let was = others_same top s (act.Tracer p b) o h tt x r e is in
          counted_as r.local was.before.local x was.same (counted x was.before was.is_before)
    ] refl
