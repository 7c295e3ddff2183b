-- The machine's step on the lent processes alone is their parts side by side, since all processes
-- of the act are there.
use Rattle.std.proofs.Common.{◌≡◌, ◌≢◌, ℕ, ◌+◌, true, false, cond, max, [], ◌∷◌, ◌++◌, Option, Some}
use Rattle.std.proofs.Common.{option_map, refl, sym, ◌∙◌, ap, arith}
use Rattle.st_core.specs.declared.types.Pid.{Pid}
use Rattle.st_core.specs.declared.types.Token.{Token}
use Rattle.st_core.specs.declared.types.Act.{Act}
use Rattle.st_core.specs.declared.types.Act.TheVariants as act
use Rattle.st_core.specs.declared.types.Reply.{Reply}
use Rattle.st_core.specs.Pid.{pid_eq}
use Rattle.st_core.specs.State.{Process, State, process}
use Rattle.st_core.specs.Step.{acted, actor, receiver, reached, changed, outcome_of, step}
use Rattle.st_core.proofs.ForCallers.{pid_eq-true, pid_eq-same, pid_eq-swap}
use Rattle.st_log.specs.declared.entry.Entry.{Entry}
use Rattle.st_runtime.specs.Inside.{IsAppended}
use Rattle.st_log.specs.Entries.{last_rank}
use Rattle.st_runtime.specs.Logs.{carried_by, IsOwnPart, IsOtherPart}
use Rattle.st_runtime.specs.Pcb.{Control, IsStepped, is_alone, entry_outcome}

-- A STEP WHOSE PROCESSES ARE KNOWN

pub step_is : (top : ℕ) (s : State) (a : Act) (r x : Process)
    → process s (actor a) ≡ Some r → process s (receiver a) ≡ Some x
    → step top s a ≡ option_map (outcome_of s a) (acted top r a)
step_is top s a r x here there = rw (here, there) refl

-- THE STEP ON ONE PROCESS

alone_receiver : (a : Act) → is_alone a ≡ true → receiver a ≡ actor a
alone_receiver (act.Send p q v) alone = sym (pid_eq-true p q alone)
alone_receiver a alone = refl

found_first : (r : Process) (s : State) (p : Pid) → p ≡ r.pid → process (r ∷ s) p ≡ Some r
found_first r s p same = rw (same, pid_eq-same r.pid) refl

pub step_alone : (top : ℕ) (r : Process) (a : Act) → is_alone a ≡ true → actor a ≡ r.pid
    → step top (r ∷ []) a ≡ option_map (outcome_of (r ∷ []) a) (acted top r a)
step_alone top r a alone mine =
    step_is top (r ∷ []) a r r (found_first r [] (actor a) mine)
    (found_first r [] (receiver a) (alone_receiver a alone ∙ mine))

pub stepped_alone : (top : ℕ) (a : Act) (y : Reply) (x z : Control) → is_alone a ≡ true
    → actor a ≡ x.process.pid
    → IsAppended top a y x z → IsStepped top a y (x ∷ []) (z ∷ [])
stepped_alone top a y x z alone mine is =
    let e = is.entry in
    let own = is.part in
    let s : State = x.process ∷ [] in
    let acts : acted top x.process a ≡ Some own.done =
    ap (acted top x.process) (sym is.act) ∙ own.acts in
    let after : changed a own.done x.process ≡ z.process =
    ap (λ b. changed b own.done x.process) (sym is.act) ∙ own.after in
    let outcome : outcome_of s a own.done ≡ entry_outcome e own.done.place (z ∷ []) = λ i. record {
      reply = own.reply i;
      report = own.report i;
      place = own.done.place;
      after = after i ∷ [];
    } in
    record {
      entry = e;
      place = own.done.place;
      step = step_alone top x.process a alone mine ∙ ap (option_map (outcome_of s a)) acts
          ∙ ap (λ o. Some o) outcome;
      act = is.act;
      reply = is.reply;
      rank = is.rank ∙ omega arith;
      logs = λ i. is.log i ∷ [];
    }

-- THE STEP ON TWO PROCESSES

pub apart_eq : (p q : Pid) → p ≢ q → pid_eq p q ≡ false
apart_eq p q apart =
    elim (pid_eq p q) as (λ b. pid_eq p q ≡ b → b ≡ false) [
      | true ↦ λ is. absurd (apart (pid_eq-true p q is))
      | false ↦ λ is. refl
    ] refl

-- what reaches a process is the same by the actor's token and by the carried one
pub reached_carried : (a : Act) (t : Option Token) (r : Process)
    → reached a (carried_by a t) r ≡ reached a t r
reached_carried (act.Send p q v) t r = refl
reached_carried (act.Reset p) t r = refl
reached_carried (act.Tracer p b) t r = refl
reached_carried a t r = refl

-- the step of a send from x to y
pub step_between : (top : ℕ) (x y : Process) (v : ℕ) → pid_eq x.pid y.pid ≡ false
    → step top (x ∷ y ∷ []) (act.Send x.pid y.pid v)
    ≡ option_map (outcome_of (x ∷ y ∷ []) (act.Send x.pid y.pid v))
    (acted top x (act.Send x.pid y.pid v))
step_between top x y v apart =
    let second : process (x ∷ y ∷ []) y.pid ≡ Some y = rw (apart, pid_eq-same y.pid) refl in
    step_is top (x ∷ y ∷ []) (act.Send x.pid y.pid v) x y (found_first x (y ∷ []) x.pid refl) second

-- both logs get the same entry at their ends
pub record AreLogged (x y z w : Control) (e : Entry) : Type 0 where
  pub rank : e.rank ≡ max (last_rank 0 x.log) (last_rank 0 y.log) + 1
  pub from : z.log ≡ x.log ++ e ∷ []
  pub to : w.log ≡ y.log ++ e ∷ []

pub stepped_between : (top : ℕ) (v : ℕ) (x y z w : Control) (e : Entry)
    → pid_eq x.process.pid y.process.pid ≡ false → e.act ≡ act.Send x.process.pid y.process.pid v
    → IsOwnPart top x.process e z.process → IsOtherPart top y.process e w.process
    → AreLogged x y z w e
    → IsStepped top (act.Send x.process.pid y.process.pid v) e.reply (x ∷ y ∷ []) (z ∷ w ∷ [])
stepped_between top v x y z w e apart is own other logged =
    let a = act.Send x.process.pid y.process.pid v in
    let s : State = x.process ∷ y.process ∷ [] in
    let acts : acted top x.process a ≡ Some own.done =
    ap (acted top x.process) (sym is) ∙ own.acts in
    let from : changed a own.done x.process ≡ z.process =
    ap (λ b. changed b own.done x.process) (sym is) ∙ own.after in
    let carried : own.done.local.token ≡ e.carried =
    ap (λ b. carried_by b own.done.local.token) (sym is) ∙ own.carried in
    let away : pid_eq y.process.pid x.process.pid ≡ false =
    pid_eq-swap y.process.pid x.process.pid ∙ apart in
    let mine : Process = record y.process { local = own.done.local; queue = own.done.queue } in
    let to : changed a own.done y.process ≡ w.process =
    ap (λ b. reached a own.done.local.token (cond b mine y.process)) away
    ∙ ap (λ t. reached a t y.process) carried
    ∙ ap (λ b. reached b e.carried y.process) (sym is) ∙ other.after in
    let outcome : outcome_of s a own.done ≡ entry_outcome e own.done.place (z ∷ w ∷ []) =
    λ i. record {
      reply = own.reply i;
      report = own.report i;
      place = own.done.place;
      after = from i ∷ to i ∷ [];
    } in
    record {
      entry = e;
      place = own.done.place;
      step = step_between top x.process y.process v apart ∙ ap (option_map (outcome_of s a)) acts
          ∙ ap (λ o. Some o) outcome;
      act = is;
      reply = refl;
      rank = logged.rank ∙ omega arith;
      logs = λ i. logged.from i ∷ logged.to i ∷ [];
    }

-- THE ANSWER ON ONE PROCESS
