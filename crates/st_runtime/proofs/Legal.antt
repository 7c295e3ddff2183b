-- A legal entry leaves the state that the machine's step leaves: the actor's part tells the same
-- there, and what reaches another process is the same by the carried token.
use Rattle.std.proofs.Common.{◌≡◌, ℕ, Bool, true, false, cond, Some, refl, sym, ◌∙◌, ap}
use Rattle.std.specs.Prelude.{MatchBool}
use Rattle.std.proofs.lemmas.Option.{same_Some}
use Rattle.st_core.specs.declared.types.Pid.{Pid}
use Rattle.st_core.specs.declared.types.Act.{Act}
use Rattle.st_core.specs.Pid.{pid_eq}
use Rattle.st_core.specs.State.{Process}
use Rattle.st_core.specs.Step.{Acted, acted, actor, touches, reached, changed}
use Rattle.st_core.proofs.ForCallers.{pid_eq-true, pid_eq-same}
use Rattle.st_log.specs.declared.entry.Entry.{Entry}
use Rattle.st_runtime.specs.Logs.{carried_by, IsOwnPart, IsOtherPart, IsPart}
use Rattle.st_runtime.proofs.PartLemmas.{touches_actor}
use Rattle.st_runtime.proofs.StepLemmas.{reached_carried}

-- by cases on a test that holds
pub on_true : (b : Bool) (P Q : Type 0) → b ≡ true → MatchBool b P Q → P
on_true true P Q is m = m
on_true false P Q is m = cc

pub on_false : (b : Bool) (P Q : Type 0) → b ≡ false → MatchBool b P Q → Q
on_false true P Q is m = cc
on_false false P Q is m = m

-- the actor's part at a process of the actor's pid
pub own_of_part : (top : ℕ) (r : Process) (e : Entry) (m : Process)
    → r.pid ≡ actor e.act → IsPart top r e m → IsOwnPart top r e m
own_of_part top r e m mine part =
    let is : pid_eq r.pid (actor e.act) ≡ true =
    ap (λ p. pid_eq p (actor e.act)) mine ∙ pid_eq-same (actor e.act) in
    on_true (pid_eq r.pid (actor e.act)) _ _ is part.part

-- what the step's actor has done in an entry: it is there, its part is `done`, and it alone has
-- its pid
pub record IsDone (top : ℕ) (e : Entry) (before : Process) (done : Acted) : Type 0 where
  pub mine : before.pid ≡ actor e.act
  pub acts : acted top before e.act ≡ Some done
  pub carried : carried_by e.act done.local.token ≡ e.carried

-- a legal part leaves what the machine's step leaves
pub part_changed : (top : ℕ) (r : Process) (e : Entry) (m : Process) (before : Process)
    (done : Acted)
    → IsDone top e before done → (r.pid ≡ actor e.act → r ≡ before)
    → IsPart top r e m → changed e.act done r ≡ m
part_changed top r e m before done is one part =
    elim (pid_eq r.pid (actor e.act)) as (λ b. pid_eq r.pid (actor e.act) ≡ b
    → MatchBool b (IsOwnPart top r e m) (IsOtherPart top r e m) → changed e.act done r ≡ m) [
      | true ↦ λ mine own.
          let same : r ≡ before = one (pid_eq-true r.pid (actor e.act) mine) in
          let acts : acted top r e.act ≡ Some done = ap (λ x. acted top x e.act) same ∙ is.acts in
          let alike : own.done ≡ done = same_Some own.done done (sym own.acts ∙ acts) in
          ap (λ d. changed e.act d r) (sym alike) ∙ own.after
      | false ↦ λ away other.
          let after : Process = record r { local = done.local; queue = done.queue } in
          ap (λ b. reached e.act done.local.token (cond b after r)) away
          ∙ sym (reached_carried e.act done.local.token r)
          ∙ ap (λ t. reached e.act t r) is.carried ∙ other.after
    ] refl part.part

-- an act that doesn't touch a process is another's
pub untouched_other : (a : Act) (p : Pid) → touches a p ≡ false → pid_eq (actor a) p ≡ false
untouched_other a p away =
    elim (pid_eq (actor a) p) as (λ b. pid_eq (actor a) p ≡ b → b ≡ false) [
      | true ↦ λ is.
          let near : touches a p ≡ true = ap (touches a) (sym (pid_eq-true (actor a) p is))
          ∙ touches_actor a in cc
      | false ↦ λ is. refl
    ] refl
