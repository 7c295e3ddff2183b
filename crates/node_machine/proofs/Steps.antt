-- A step changes its actor by the actor's part, and another process only by a message, a tracer
-- change or a reset.
use Rattle.std.proofs.Common.{◌≡◌, ℕ, zero, suc, take, true, false, Bool, cond, List, [], ◌∷◌, ◌++◌}
use Rattle.std.proofs.Common.{Option, Some, None, option_map, option_and_then, option_to_list, refl}
use Rattle.std.proofs.Common.{sym, ◌∙◌, ap, subst}
use Rattle.std.specs.List.{AllByRecursion}
use Rattle.std.proofs.lemmas.Bool.{false≢true}
use Rattle.std.proofs.lemmas.Option.{option_and_then_some, same_Some}
use Rattle.st_core.specs.declared.types.Pid.{Pid}
use Rattle.st_core.specs.declared.types.Label.{Label}
use Rattle.st_core.specs.declared.types.Token.{Token}
use Rattle.st_core.specs.declared.types.Message.{Message}
use Rattle.st_core.specs.declared.types.Act.{Act}
use Rattle.st_core.specs.declared.types.Act.TheVariants as act
use Rattle.st_core.specs.declared.types.Reply.TheVariants as reply
use Rattle.st_core.specs.Pid.{node_eq, pid_eq}
use Rattle.st_core.specs.State.{LocalState, Process, State, process}
use Rattle.st_core.specs.Local.{has_label}
use Rattle.st_core.specs.Step.{Acted, answers, Outcome, actor, changed, outcome_of, prints, reached}
use Rattle.st_core.specs.Step.{receiver}
use Rattle.st_core.specs.Laws.{is_reset}
use Rattle.st_core.proofs.ForCallers.{changed_pid, local_found, local_in, mapped, pid_eq-swap}
use Rattle.st_core.proofs.ForCallers.{pid_same, process-map, process_pid}
use Rattle.node_machine.specs.Counts.{next_clock}
use Rattle.node_machine.specs.Node.{after_stamp, Common, machine_act, NodeAct, node_acted}
use Rattle.node_machine.specs.Node.{node_actor, node_run_from, node_stamped_token, node_step}

-- IN PARTS

-- the actor's process before a step, and the actor's part
pub record NodeStepped (s : State) (a : NodeAct) (o : Outcome) : Type 0 where
  pub before : Process
  pub done : Acted
  pub is_before : process s (node_actor a) ≡ Some before
  pub is_done : node_acted before a ≡ done
  pub is_outcome : outcome_of s (machine_act a) done ≡ o

pub node_step_parts : (s : State) (a : NodeAct) (o : Outcome) → node_step s a ≡ Some o
    → NodeStepped s a o
node_step_parts s a o h =
    let whole = λ (r : Process). outcome_of s (machine_act a) (node_acted r a) in
    let found = process s (receiver (machine_act a)) in
    option_and_then_some (λ r. option_map (λ (_ : Process). whole r) found)
    (process s (node_actor a)) o h
    (λ r is_r rest.
    let parts = mapped (λ (_ : Process). whole r) found o rest in
    record {
      before = r;
      done = node_acted r a;
      is_before = is_r;
      is_done = refl;
      is_outcome = parts.2;
    })

-- the first outcome is a step, and the others are the run from there on
abbrev pub NodeBegan : State → NodeAct → List NodeAct → List Outcome → Type 0
NodeBegan s a rest [] = ⊥
NodeBegan s a rest (o ∷ os) = (node_step s a ≡ Some o) × (node_run_from o.after rest ≡ Some os)

pub node_run_parts : (s : State) (a : NodeAct) (rest : List NodeAct) (os : List Outcome)
    → node_run_from s (a ∷ rest) ≡ Some os → NodeBegan s a rest os
node_run_parts s a rest os h =
    let from = λ (o : Outcome). option_map (λ os. o ∷ os) (node_run_from o.after rest) in
    option_and_then_some from (node_step s a) os h (λ o is_o later.
    let found = mapped (λ os. o ∷ os) (node_run_from o.after rest) os later in
    subst (NodeBegan s a rest) found.2 (is_o, found.1))

pub node_run_take : (n : ℕ) (s : State) (acts : List NodeAct) (os : List Outcome)
    → node_run_from s acts ≡ Some os → node_run_from s (take n acts) ≡ Some (take n os)
node_run_take zero s acts os h = refl
node_run_take (suc n) s [] os h = ap (λ xs. Some (take (suc n) xs)) (same_Some [] os h)
node_run_take (suc n) s (a ∷ acts) [] h = absurd (node_run_parts s a acts [] h)
node_run_take (suc n) s (a ∷ acts) (o ∷ os) h =
    let run = node_run_parts s a acts (o ∷ os) h in
    ap (option_and_then (λ x. option_map (λ xs. x ∷ xs) (node_run_from x.after (take n acts))))
    run.0
    ∙ ap (option_map (λ xs. o ∷ xs)) (node_run_take n o.after acts os run.1)

pub node_process_after : (s : State) (a : NodeAct) (o : Outcome) (t : NodeStepped s a o)
    (p : Pid)
    → process o.after p ≡ option_map (changed (machine_act a) t.done) (process s p)
node_process_after s a o t p =
    ap (λ (x : Outcome). process x.after p) (sym t.is_outcome)
    ∙ process-map (changed (machine_act a) t.done) (changed_pid (machine_act a) t.done) s p

-- P holds of f of the process's token, if there is one
pub of_token : {A : Type 0} (P : A → Type 0) (f : Token → A) (found : Option Process)
    → ((t : Token) → (local_found found).token ≡ Some t → P (f t))
    → AllByRecursion P (option_to_list (option_map f
    (option_and_then (λ (r : Process). r.local.token) found)))
of_token P f None all = tt
of_token P f (Some r) all =
    elim r.local.token as (λ o. r.local.token ≡ o
    → AllByRecursion P (option_to_list (option_map f o))) [
      | None ↦ λ _. tt
      | Some t ↦ λ is. (all t is, tt)
    ] refl

-- CASES

-- a stamp finds no token, or stamps it
pub stamp_either : (P : LocalState → Type 0) (p : Pid) (l : LocalState)
    → (l.token ≡ None → P l)
    → ((t : Token) → l.token ≡ Some t
    → P (record l { token = Some (node_stamped_token p l t); clock = next_clock l.clock }))
    → P (after_stamp p l)
stamp_either P p l none some = elim l.token as (λ token. l.token ≡ token → P (elim token [
  | None ↦ l
  | Some t ↦ record l { token = Some (node_stamped_token p l t); clock = next_clock l.clock }
])) [ None ↦ none | Some t ↦ some t ] refl

-- a print at a label prints, or changes nothing
pub print_at_either : (P : Acted → Type 0) (r : Process) (p : Pid) (n : Label) (v : ℕ)
    → P (prints r v (after_stamp r.pid r.local)) → P (answers r r.local reply.Done)
    → P (node_acted r (Common (act.PrintAt p n v)))
print_at_either P r p n v printed still = elim (has_label n r.local.token) as
    (λ b. P (cond b (prints r v (after_stamp r.pid r.local)) (answers r r.local reply.Done))) [
      | true ↦ printed
      | false ↦ still
    ]

-- WHAT REACHES A PROCESS

-- m and l differ at most in whether their process is traced
pub record SameButTraced (l m : LocalState) : Type 0 where
  pub token : m.token ≡ l.token
  pub clock : m.clock ≡ l.clock
  pub last : m.last ≡ l.last

same_but_traced : (l : LocalState) → SameButTraced l l
same_but_traced l = record { token = refl; clock = refl; last = refl }

pub reached_same : (a : Act) (t : Option Token) (r : Process) → is_reset a ≡ false
    → SameButTraced r.local (reached a t r).local
reached_same (act.Reset p) t r plain = absurd (false≢true (sym plain))
reached_same (act.Send p q v) t r plain =
    let m : Message = record { from = p; value = v; token = t } in
    elim (pid_eq r.pid q) as (λ b. SameButTraced r.local
    (cond b (record r { queue = r.queue ++ m ∷ [] }) r).local) [
      | true ↦ same_but_traced r.local
      | false ↦ same_but_traced r.local
    ]
reached_same (act.Tracer p on) t r plain =
    elim (node_eq r.pid p) as (λ b.
    SameButTraced r.local (cond b (record r { local = record r.local { traced = on } }) r).local) [
      | true ↦ record { token = refl; clock = refl; last = refl }
      | false ↦ same_but_traced r.local
    ]
reached_same a t r plain = same_but_traced r.local

-- the actor's state is its part's, and each other's stays
changed_same : (a : Act) (done : Acted) (r : Process) (mine : Bool) → is_reset a ≡ false
    → pid_eq r.pid (actor a) ≡ mine → SameButTraced (cond mine done.local r.local)
    (changed a done r).local
changed_same a done r mine plain is =
    let own : Process = record r { local = done.local; queue = done.queue } in
    let x = λ (b : Bool). cond b own r in
    let reached = reached_same a done.local.token (x (pid_eq r.pid (actor a))) plain in
    let part : SameButTraced (x mine).local (changed a done r).local =
    subst (λ b. SameButTraced (x b).local (changed a done r).local) is reached in
    elim mine as (λ b. SameButTraced (x b).local (changed a done r).local
    → SameButTraced (cond b done.local r.local) (changed a done r).local) [
      | true ↦ λ h. h
      | false ↦ λ h. h
    ] part

module _ (s : State) (a : NodeAct) (o : Outcome) (t : NodeStepped s a o)
    (plain : is_reset (machine_act a) ≡ false) where
  pub other_same : (p : Pid) → pid_eq (node_actor a) p ≡ false
      → SameButTraced (local_in s p) (local_in o.after p)
  other_same p other =
      subst (λ found. SameButTraced (local_in s p) (local_found found))
      (sym (node_process_after s a o t p))
      (elim (process s p) as (λ found. process s p ≡ found
      → SameButTraced (local_found found)
      (local_found (option_map (changed (machine_act a) t.done) found))) [
        | None ↦ λ _. same_but_traced (local_found None)
        | Some r ↦ λ is.
            let apart = ap (λ q. pid_eq q (node_actor a)) (process_pid s p r is)
            ∙ pid_eq-swap p (node_actor a) ∙ other in
            changed_same (machine_act a) t.done r false plain apart
      ] refl)

  pub actor_found : (p : Pid) → pid_eq (node_actor a) p ≡ true → process s p ≡ Some t.before
  actor_found p mine = ap (process s) (sym (pid_same (node_actor a) p mine)) ∙ t.is_before

  pub actor_same : (p : Pid) → pid_eq (node_actor a) p ≡ true
      → SameButTraced t.done.local (local_in o.after p)
  actor_same p mine =
      let is = actor_found p mine in
      let own : pid_eq t.before.pid (node_actor a) ≡ true =
      ap (λ q. pid_eq q (node_actor a)) (process_pid s p t.before is) ∙ pid_eq-swap p (node_actor a)
      ∙ mine in
      subst (λ found. SameButTraced t.done.local (local_found found))
      (sym (node_process_after s a o t p ∙ ap (option_map (changed (machine_act a) t.done)) is))
      (changed_same (machine_act a) t.done t.before true plain own)
