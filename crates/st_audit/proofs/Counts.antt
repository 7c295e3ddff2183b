-- An act other than a reset moves the clock and the last count of its actor alone, and no act that
-- makes a process ready for a stamp lets its clock fall.
use Rattle.std.proofs.Common.{◌≡◌, ℕ, ◌+◌, ◌≤◌, ◌&&◌, nat_lt, Bool, true}
use Rattle.std.proofs.Common.{false, cond, List, [], ◌∷◌, ◌++◌, Option, Some, None, refl, sym, ◌∙◌}
use Rattle.std.proofs.Common.{ap, subst, arith, if◌then◌else◌}
use Rattle.std.specs.List.{AllByRecursion}
use Rattle.std.proofs.lemmas.Option.{cond_some, same_Some, none-some}
use Rattle.st_core.specs.declared.types.Pid.{Pid}
use Rattle.st_core.specs.declared.types.Token.{Token}
use Rattle.st_core.specs.declared.types.Event.{Event}
use Rattle.st_core.specs.declared.types.Kind.{Kind}
use Rattle.st_core.specs.declared.types.Act.{Act}
use Rattle.st_core.specs.declared.types.Act.TheVariants as act
use Rattle.st_core.specs.declared.types.Serial.{Serial}
use Rattle.st_core.specs.declared.types.Component.TheVariants as component
use Rattle.st_core.specs.Pid.{pid_eq, node_eq}
use Rattle.st_core.specs.State.{LocalState, Process, State, process}
use Rattle.st_core.specs.Stamp.{stamp_any, stamped_token}
use Rattle.st_core.specs.Local.{default_token, started}
use Rattle.st_core.specs.Report.{flag_of, report, token_event}
use Rattle.st_core.specs.Step.{Acted, Outcome, acted, actor, reached, changed, prints, step}
use Rattle.st_core.specs.Run.{run_from}
use Rattle.st_core.proofs.ForCallers.{mapped, process_after, process_pid, run_parts, step_parts}
use Rattle.st_core.proofs.ForCallers.{pid_eq-refl}
use Rattle.st_plan.specs.Build.{state_after}
use Rattle.st_plan.proofs.ForCallers.{is_alone}

-- ONE ACT

-- the act isn't a reset
abbrev pub IsNoReset : Act → Type 0
IsNoReset (act.Reset p) = ⊥
IsNoReset a = Unit {0}

-- both have one clock and one last count
pub record HaveSame (l m : LocalState) : Type 0 where
  pub clocked : l.clock ≡ m.clock
  pub lasted : l.last ≡ m.last

abbrev pub with_act : Act → Acted → Process → Process
with_act a done r = if pid_eq r.pid (actor a) then
    record r { local = done.local; queue = done.queue } else r

reached_same : (a : Act) (t : Option Token) (r : Process) → IsNoReset a
    → HaveSame (reached a t r).local r.local
reached_same (act.Send p q v) t r h =
    elim (pid_eq r.pid q) as (λ b. HaveSame
    (cond b (record r { queue = r.queue ++ record { from = p; value = v; token = t } ∷ [] })
    r).local r.local) [
      | true ↦ record { clocked = refl; lasted = refl }
      | false ↦ record { clocked = refl; lasted = refl }
    ]
reached_same (act.Reset p) t r h = absurd h
reached_same (act.Tracer p b) t r h =
    elim (node_eq r.pid p) as (λ c. HaveSame
    (cond c (record r { local = record r.local { traced = b } }) r).local r.local) [
      | true ↦ record { clocked = refl; lasted = refl }
      | false ↦ record { clocked = refl; lasted = refl }
    ]
reached_same a t r h = record { clocked = refl; lasted = refl }

both_same : (l m n : LocalState) → HaveSame l m → HaveSame m n → HaveSame l n
both_same l m n one two =
    record { clocked = one.clocked ∙ two.clocked; lasted = one.lasted ∙ two.lasted }

-- the process was there before, with the clock and the last count of l
pub record WasSame (s : State) (x : Pid) (l : LocalState) : Type 0 where
  pub before : Process
  pub is_before : process s x ≡ Some before
  pub same : HaveSame l before.local

-- the actor's part of a step
pub record WasActor (top : ℕ) (s : State) (a : Act) (o : Outcome) (l : LocalState) : Type 0 where
  pub before : Process
  pub done : Acted
  pub is_before : process s (actor a) ≡ Some before
  pub is_done : acted top before a ≡ Some done
  pub told : o.report ≡ done.report
  pub same : HaveSame l done.local

module _ (top : ℕ) (s : State) (a : Act) (o : Outcome) (step : step top s a ≡ Some o)
    (no_reset : IsNoReset a) where
  pub others_same : (x : Pid) (r : Process) → pid_eq x (actor a) ≡ false
      → process o.after x ≡ Some r
      → WasSame s x r.local
  others_same x r apart h =
      let t = step_parts top s a o step in
      let parts = mapped (changed a t.done) (process s x) r
      (sym (process_after top s a o t x) ∙ h) in
      let z = parts.0 in
      let pid : z.pid ≡ x = process_pid s x z parts.1 in
      let own : with_act a t.done z ≡ z =
      ap (λ b. cond b (record z { local = t.done.local; queue = t.done.queue }) z)
      (ap (λ p. pid_eq p (actor a)) pid ∙ apart) in
      record {
        before = z;
        is_before = parts.1;
        same = subst (λ (y : Process). HaveSame y.local z.local)
            (ap (reached a t.done.local.token) (sym own) ∙ parts.2)
            (reached_same a t.done.local.token z no_reset);
      }

  pub actor_same : (r : Process) → process o.after (actor a) ≡ Some r → WasActor top s a o r.local
  actor_same r h =
      let t = step_parts top s a o step in
      let parts = mapped (changed a t.done) (process s (actor a)) r
      (sym (process_after top s a o t (actor a)) ∙ h) in
      let z = parts.0 in
      let is_z : t.before ≡ z = same_Some t.before z (sym t.is_before ∙ parts.1) in
      let pid : z.pid ≡ actor a = process_pid s (actor a) z parts.1 in
      let put : Process = record z { local = t.done.local; queue = t.done.queue } in
      let own : with_act a t.done z ≡ put =
      ap (λ b. cond b put z) (ap (λ p. pid_eq p (actor a)) pid ∙ pid_eq-refl (actor a)) in
      record {
        before = t.before;
        done = t.done;
        is_before = t.is_before;
        is_done = t.is_done;
        told = ap (λ (x : Outcome). x.report) (sym t.is_outcome);
        same = subst (λ (y : Process). HaveSame y.local t.done.local)
            (ap (reached a t.done.local.token) (sym own) ∙ parts.2)
            (reached_same a t.done.local.token put no_reset);
      }

-- A STAMP

-- what a stamp of a process with a token makes of it
pub stamp_some : (top : ℕ) (p : Pid) (l m : LocalState) (t : Token) → l.token ≡ Some t
    → stamp_any top p l ≡ Some m
    → m ≡ record l { token = Some (stamped_token p l t); clock = l.clock + 1 }
stamp_some top p l m t is h =
    let made : LocalState = record l { token = Some (stamped_token p l t); clock = l.clock + 1 } in
    let e : stamp_any top p l ≡ cond (nat_lt l.clock top) (Some made) None = rw is refl in
    sym (cond_some (nat_lt l.clock top) made m (sym e ∙ h)).1

-- what a stamp of a process without a token makes of it
stamp_none : (top : ℕ) (p : Pid) (l m : LocalState) → l.token ≡ None → stamp_any top p l ≡ Some m
    → m ≡ l
stamp_none top p l m is h =
    sym (same_Some l m (sym (let e : stamp_any top p l ≡ Some l = rw is refl in e) ∙ h))

-- the serial of a reported stamp is that of its event
pub record IsTold (l m : LocalState) (e : Event) : Type 0 where
  pub clocked : m.clock ≡ e.serial.this
  pub lasted : m.last ≡ e.serial.prev
  pub rose : l.clock ≤ m.clock

pub told_serial : (b : Bool) (k : Kind) (t : Token) (to : Option Pid) (v : ℕ) (e : Event)
    → report b k (Some t) to v ≡ Some e → e.serial ≡ t.serial
told_serial b k t to v e h = ap (λ (x : Event). x.serial)
    (sym (cond_some (b && flag_of k t.flags) (token_event k t to v) e h).1)

pub stamp_told : (top : ℕ) (p : Pid) (l m : LocalState) (b : Bool) (k : Kind) (to : Option Pid)
    (v : ℕ) (e : Event)
    → stamp_any top p l ≡ Some m → report b k m.token to v ≡ Some e → IsTold l m e
stamp_told top p l m b k to v e h told =
    elim l.token as (λ token. l.token ≡ token → IsTold l m e) [
      | None ↦ λ is.
          let same = stamp_none top p l m is h in
          let none : m.token ≡ None = ap (λ (x : LocalState). x.token) same ∙ is in
          absurd (none-some e (ap (λ t. report b k t to v) (sym none) ∙ told))
      | Some t ↦ λ is.
          let same = stamp_some top p l m t is h in
          let token = ap (λ (x : LocalState). x.token) same in
          let serial = told_serial b k (stamped_token p l t) to v e
          (ap (λ t. report b k t to v) (sym token) ∙ told) in
          let clock = ap (λ (x : LocalState). x.clock) same in
          record {
            clocked = clock ∙ ap (λ (x : Serial). x.this) (sym serial);
            lasted = ap (λ (x : LocalState). x.last) same
                ∙ ap (λ (x : Serial). x.prev) (sym serial);
            rose = omega arith;
          }
    ] refl

-- ACTS BEFORE A STAMP

abbrev started_by : Pid → LocalState → Option Token → LocalState
started_by p l None = record l { token = Some (default_token p); last = l.clock }
started_by p l (Some t) = l

started_clock : (p : Pid) (l : LocalState) → (started p l).clock ≡ l.clock
started_clock p l = elim l.token as
    (λ t. (started_by p l t).clock ≡ l.clock) [ None ↦ refl | Some t ↦ refl ]

alone_rises : (top : ℕ) (p : Pid) (a : Act) (r : Process) (done : Acted) → is_alone p a
    → acted top r a ≡ Some done
    → r.local.clock ≤ done.local.clock
alone_rises top p (act.Print q v) r done h is =
    let parts = mapped (prints r v) (stamp_any top r.pid r.local) done is in
    let m = parts.0 in
    let ends = ap (λ (x : Acted). x.local.clock) parts.2 in
    elim r.local.token as (λ token. r.local.token ≡ token → r.local.clock ≤ done.local.clock) [
      | None ↦ λ none. let same =
          ap (λ (x : LocalState). x.clock) (stamp_none top r.pid r.local m none parts.1) in
          omega arith
      | Some t ↦ λ some. let same =
          ap (λ (x : LocalState). x.clock) (stamp_some top r.pid r.local m t some parts.1) in
          omega arith
    ] refl
alone_rises top p (act.Set q c) r done h is =
    let ends = ap (λ (x : Acted). x.local.clock) (same_Some _ done is) in
    let begins = started_clock r.pid r.local in
    omega arith
alone_rises top p (act.Clear q) r done h is =
    let ends = ap (λ (x : Acted). x.local.clock) (same_Some _ done is) in
    omega arith
alone_rises top p (act.Restore q t) r done h is =
    let ends = ap (λ (x : Acted). x.local.clock) (same_Some _ done is) in
    omega arith
alone_rises top p a r done h is = absurd h

alone_is : (p : Pid) (a : Act) → is_alone p a → (actor a ≡ p) × IsNoReset a
alone_is p (act.Print q v) h = (sym h, tt)
alone_is p (act.Set q c) h = (sym h, tt)
alone_is p (act.Clear q) h = (sym h, tt)
alone_is p (act.Restore q t) h = (sym h, tt)
alone_is p a h = absurd h

-- p was there, with a clock no greater
pub record WasBelow (s : State) (p : Pid) (l : LocalState) : Type 0 where
  pub before : Process
  pub is_before : process s p ≡ Some before
  pub below : before.local.clock ≤ l.clock

-- p alone moved between these states, and its clock didn't fall
pub record HasRisen (p : Pid) (s after : State) : Type 0 where
  pub others : (x : Pid) (r : Process) → pid_eq x p ≡ false → process after x ≡ Some r
      → WasSame s x r.local
  pub own : (r : Process) → process after p ≡ Some r → WasBelow s p r.local

pub was_same : (s t : State) (x : Pid) (l : LocalState) (one : WasSame t x l)
    → WasSame s x one.before.local
    → WasSame s x l
was_same s t x l one two =
    record {
      before = two.before;
      is_before = two.is_before;
      same = both_same l one.before.local two.before.local one.same two.same;
    }

alone_risen : (top : ℕ) (p : Pid) (s : State) (a : Act) (o : Outcome) → is_alone p a
    → step top s a ≡ Some o
    → HasRisen p s o.after
alone_risen top p s a o alone h =
    let by = alone_is p a alone in
    record {
      others = λ x r apart is. others_same top s a o h by.1 x r (ap (pid_eq x) by.0 ∙ apart) is;
      own = λ r is.
          let was = actor_same top s a o h by.1 r (ap (process o.after) by.0 ∙ is) in
          let rises = alone_rises top p a was.before was.done alone was.is_done in
          let same = was.same.clocked in
          record {
            before = was.before;
            is_before = ap (process s) (sym by.0) ∙ was.is_before;
            below = omega arith;
          };
    }

then_risen : (p : Pid) (s t u : State) → HasRisen p s t → HasRisen p t u → HasRisen p s u
then_risen p s t u one two = record {
  others = λ x r apart is.
      let late = two.others x r apart is in
      let early = one.others x late.before apart late.is_before in
      was_same s t x r.local late early;
  own = λ r is.
      let late = two.own r is in
      let early = one.own late.before late.is_before in
      let high = late.below in
      let low = early.below in
      record { before = early.before; is_before = early.is_before; below = omega arith };
}

pub all_risen : (top : ℕ) (p : Pid) (s : State) (acts : List Act) (os : List Outcome)
    → AllByRecursion (is_alone p) acts → run_from top s acts ≡ Some os
    → HasRisen p s (state_after s os)
all_risen top p s [] os alone h =
    subst (λ os. HasRisen p s (state_after s os)) (same_Some [] os h) (record {
      others = λ x r apart is. record {
        before = r;
        is_before = is;
        same = record { clocked = refl; lasted = refl };
      };
      own = λ r is. record { before = r; is_before = is; below = omega arith };
    })
all_risen top p s (a ∷ acts) os alone h =
    let t = run_parts top s a acts os h in
    subst (λ os. HasRisen p s (state_after s os)) (sym t.is_whole)
    (then_risen p s t.first.after (state_after t.first.after t.others)
    (alone_risen top p s a t.first alone.0 t.is_first)
    (all_risen top p t.first.after acts t.others alone.1 t.is_rest))
