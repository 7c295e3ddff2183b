-- A step maps each process to a changed one with the same pid, so the process of a pid after the
-- step is the changed one of the process before.
use Rattle.std.proofs.Common.{◌≡◌, ℕ, true, false, cond, List, [], ◌∷◌, ◌++◌, map, Option, Some}
use Rattle.std.proofs.Common.{None, option_map, option_and_then, refl, sym, ◌∙◌, ap}
use Rattle.std.proofs.lemmas.Option.{same_Some, none-some, option_and_then_some}
use Rattle.st_core.specs.declared.types.Pid.{Pid}
use Rattle.st_core.specs.declared.types.Message.{Message}
use Rattle.st_core.specs.declared.types.Act.{Act}
use Rattle.st_core.specs.declared.types.Act.TheVariants as act
use Rattle.st_core.specs.Pid.{pid_eq}
use Rattle.st_core.specs.State.{Process, State, process}
use Rattle.st_core.specs.Step.{Acted, Outcome, acted, actor, receiver, touches, reached, changed}
use Rattle.st_core.specs.Step.{outcome_of, step}
use Rattle.st_core.specs.Run.{run_from}
use Rattle.st_core.specs.Laws.{LeavesOthers}
use Rattle.st_core.proofs.Pids.{pid_eq-true, pid_eq-same}
use Rattle.st_core.proofs.Steps.{changed_pid, changed_untouched}

-- PROCESSES

pub process_pid : (s : State) (p : Pid) (r : Process) → process s p ≡ Some r → r.pid ≡ p
process_pid [] p r h = absurd (none-some r h)
process_pid (x ∷ s) p r h =
    elim (pid_eq x.pid p) as (λ b. pid_eq x.pid p ≡ b → cond b (Some x) (process s p) ≡ Some r
    → r.pid ≡ p) [
      | true ↦ λ e h. ap (λ (y : Process). y.pid) (sym (same_Some x r h)) ∙ pid_eq-true x.pid p e
      | false ↦ λ e h. process_pid s p r h
    ] refl h

-- if f keeps the pids, the process of p in the mapped state is f of p's process
pub process-map : (f : Process → Process) → ((r : Process) → (f r).pid ≡ r.pid)
    → (s : State) (p : Pid)
    → process (map f s) p ≡ option_map f (process s p)
process-map f keeps [] p = refl
process-map f keeps (r ∷ s) p =
    ap (λ q. cond (pid_eq q p) (Some (f r)) (process (map f s) p)) (keeps r)
    ∙ elim (pid_eq r.pid p) as (λ b.
    cond b (Some (f r)) (process (map f s) p) ≡ option_map f (cond b (Some r) (process s p))) [
      | true ↦ refl
      | false ↦ process-map f keeps s p
    ]

map_pids : (f : Process → Process) → ((r : Process) → (f r).pid ≡ r.pid) → (s : State) → map
    (λ (r : Process). r.pid) (map f s) ≡ map (λ (r : Process). r.pid) s
map_pids f keeps [] = refl
map_pids f keeps (r ∷ s) =
    ap (λ q. q ∷ map (λ (x : Process). x.pid) (map f s)) (keeps r)
    ∙ ap (λ ps. r.pid ∷ ps) (map_pids f keeps s)

-- STEPS

-- the parts of a step: the actor's process, the receiver's, and the actor's part
pub record Stepped (top : ℕ) (s : State) (a : Act) (o : Outcome) : Type 0 where
  pub before : Process
  pub other : Process
  pub done : Acted
  pub is_before : process s (actor a) ≡ Some before
  pub is_other : process s (receiver a) ≡ Some other
  pub is_done : acted top before a ≡ Some done
  pub is_outcome : outcome_of s a done ≡ o

-- a value of a mapped option is made from a value of the option
pub mapped : {A B : Type 0} (f : A → B) (o : Option A) (y : B) → option_map f o ≡ Some y
    → (x : A) × (o ≡ Some x) × (f x ≡ y)
mapped f None y h = absurd (none-some y h)
mapped f (Some x) y h = (x, refl, same_Some (f x) y h)

pub step_parts : (top : ℕ) (s : State) (a : Act) (o : Outcome) → step top s a ≡ Some o
    → Stepped top s a o
step_parts top s a o h =
    let part = λ (r : Process). option_map (outcome_of s a) (acted top r a) in
    let among = λ (r : Process).
    option_and_then (λ (_ : Process). part r) (process s (receiver a)) in
    option_and_then_some among (process s (actor a)) o h (λ r is_r rest.
    option_and_then_some (λ (_ : Process). part r) (process s (receiver a)) o rest (λ x is_x last.
    let found = mapped (outcome_of s a) (acted top r a) o last in
    record {
      before = r;
      other = x;
      done = found.0;
      is_before = is_r;
      is_other = is_x;
      is_done = found.1;
      is_outcome = found.2;
    }))

-- a run is a step and the run from there on
pub record Began (top : ℕ) (s : State) (a : Act) (rest : List Act) (os : List Outcome) : Type 0
  where
    pub first : Outcome
    pub others : List Outcome
    pub is_first : step top s a ≡ Some first
    pub is_rest : run_from top first.after rest ≡ Some others
    pub is_whole : os ≡ first ∷ others

pub run_parts : (top : ℕ) (s : State) (a : Act) (rest : List Act) (os : List Outcome)
    → run_from top s (a ∷ rest) ≡ Some os → Began top s a rest os
run_parts top s a rest os h =
    let from = λ (o : Outcome). option_map (λ os. o ∷ os) (run_from top o.after rest) in
    option_and_then_some from (step top s a) os h (λ o is_o later.
    let found = mapped (λ os. o ∷ os) (run_from top o.after rest) os later in
    record {
      first = o;
      others = found.0;
      is_first = is_o;
      is_rest = found.1;
      is_whole =
          sym found.2;
    })

pub process_after : (top : ℕ) (s : State) (a : Act) (o : Outcome) (t : Stepped top s a o) (p : Pid)
    → process o.after p ≡ option_map (changed a t.done) (process s p)
process_after top s a o t p =
    ap (λ (x : Outcome). process x.after p) (sym t.is_outcome)
    ∙ process-map (changed a t.done) (changed_pid a t.done) s p

-- THE ACTOR

-- a process with the actor's pid is the actor
pub actor_is : (s : State) (q p : Pid) (before r : Process) → process s q ≡ Some before
    → process s p ≡ Some r
    → pid_eq r.pid q ≡ true → before ≡ r
actor_is s q p before r is_before is_r same =
    let who : q ≡ p = sym (pid_eq-true r.pid q same) ∙ process_pid s p r is_r in
    same_Some before r (sym is_before ∙ ap (process s) who ∙ is_r)

pub actor_mine : (top : ℕ) (s : State) (a : Act) (o : Outcome) (t : Stepped top s a o)
    → pid_eq t.before.pid (actor a) ≡ true
actor_mine top s a o t =
    ap (λ p. pid_eq p (actor a)) (process_pid s (actor a) t.before t.is_before)
    ∙ pid_eq-same (actor a)

pub actor_after : (top : ℕ) (s : State) (a : Act) (o : Outcome) (t : Stepped top s a o)
    → process o.after (actor a) ≡ Some (changed a t.done t.before)
actor_after top s a o t =
    process_after top s a o t (actor a) ∙ ap (option_map (changed a t.done)) t.is_before

-- a send's actor keeps for tracing what its own part says
pub sent_local : (p q : Pid) (v : ℕ) (done : Acted) (r : Process) → pid_eq r.pid p ≡ true
    → (changed (act.Send p q v) done r).local ≡ done.local
sent_local p q v done r mine =
    let own : Process = record r { local = done.local; queue = done.queue } in
    let m : Message = record { from = p; value = v; token = done.local.token } in
    ap (λ b. (reached (act.Send p q v) done.local.token (cond b own r)).local) mine
    ∙ elim (pid_eq r.pid q) as (λ b. (cond b (record own { queue = own.queue ++ m ∷ [] }) own).local
    ≡ done.local) [
      | true ↦ refl
      | false ↦ refl
    ]

-- THE OTHERS

unchanged : (a : Act) (done : Acted) (p : Pid) (found : Option Process)
    → ((r : Process) → found ≡ Some r → r.pid ≡ p)
    → touches a p ≡ false → option_map (changed a done) found ≡ found
unchanged a done p None is h = refl
unchanged a done p (Some r) is h =
    ap (λ (x : Process). Some x) (changed_untouched a done r (ap (touches a) (is r refl) ∙ h))

-- a step leaves each process that its act doesn't touch as it was
pub leaves_others : (top : ℕ) (s : State) (a : Act) (o : Outcome) → step top s a ≡ Some o
    → LeavesOthers a s o.after
leaves_others top s a o h =
    let t = step_parts top s a o h in
    record {
      pids =
          ap (λ (x : Outcome). map (λ (r : Process). r.pid) x.after) (sym t.is_outcome)
          ∙ map_pids (changed a t.done) (changed_pid a t.done) s;
      untouched = λ p h. process_after top s a o t p ∙ unchanged a t.done p (process s p)
          (process_pid s p) h;
    }
