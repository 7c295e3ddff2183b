-- A step asks only for its processes, and no step takes one away: so acts of listed processes have
-- a run.
use Rattle.std.proofs.Common.{◌≡◌, ◌||◌, true, false, cond, List, [], ◌∷◌, map, Option, Some, None}
use Rattle.std.proofs.Common.{IsSome, is_some, option_map, option_and_then, refl, sym, ◌∙◌, ap}
use Rattle.std.proofs.Common.{subst}
use Rattle.std.specs.List.{list_all}
use Rattle.std.proofs.lemmas.Bool.{and_parts, false≢true}
use Rattle.st_core.specs.declared.types.Pid.{Pid}
use Rattle.st_core.specs.Pid.{pid_eq}
use Rattle.st_core.specs.State.{Process, State, process, zero_state}
use Rattle.st_core.specs.Step.{changed, Outcome, outcome_of, receiver}
use Rattle.st_core.specs.Streams.{is_among}
use Rattle.st_core.proofs.ForCallers.{changed_pid, zero_pids}
use Rattle.node_machine.specs.Node.{NodeAct, machine_act, node_acted, node_actor, node_run_from}
use Rattle.node_machine.specs.Node.{node_step}
use Rattle.node_check.specs.Laws.{ListedActsRun, node_acts_among}
use Rattle.node_check.proofs.States.{pids_in}

among_found : (s : State) (p : Pid) → is_among (pids_in s) p ≡ true
    → (r : Process) × (process s p ≡ Some r)
among_found [] p h = absurd (false≢true h)
among_found (x ∷ s) p h =
    elim (pid_eq x.pid p) as (λ b. (b || is_among (pids_in s) p) ≡ true
    → (r : Process) × (cond b (Some x) (process s p) ≡ Some r)) [
      | true ↦ λ h. (x, refl)
      | false ↦ λ h. among_found s p h
    ] h

pids_kept : (f : Process → Process) → ((r : Process) → (f r).pid ≡ r.pid) → (s : State)
    → pids_in (map f s) ≡ pids_in s
pids_kept f keeps [] = refl
pids_kept f keeps (r ∷ s) =
    ap (λ p. p ∷ pids_in (map f s)) (keeps r) ∙ ap (λ ps. r.pid ∷ ps) (pids_kept f keeps s)

-- an act has a step if its processes are there
record HasStep (s : State) (a : NodeAct) : Type 0 where
  outcome : Outcome
  steps : node_step s a ≡ Some outcome
  pids : pids_in outcome.after ≡ pids_in s

has_step : (s : State) (a : NodeAct) → is_among (pids_in s) (node_actor a) ≡ true
    → is_among (pids_in s) (receiver (machine_act a)) ≡ true → HasStep s a
has_step s a actor_in receiver_in =
    let here = among_found s (node_actor a) actor_in in
    let there = among_found s (receiver (machine_act a)) receiver_in in
    let done = node_acted here.0 a in
    record {
      outcome = outcome_of s (machine_act a) done;
      steps = rw (here.1, there.1) refl;
      pids = pids_kept (changed (machine_act a) done) (changed_pid (machine_act a) done) s;
    }

some_mapped : {A B : Type 0} (f : A → B) (o : Option A) → IsSome o → IsSome (option_map f o)
some_mapped f None h = absurd (false≢true h)
some_mapped f (Some x) h = refl

runs_from : (pids : List Pid) (s : State) (acts : List NodeAct) → pids_in s ≡ pids
    → list_all (node_acts_among pids) acts ≡ true → IsSome (node_run_from s acts)
runs_from pids s [] same all = refl
runs_from pids s (a ∷ acts) same all =
    let parts = and_parts (node_acts_among pids a) (list_all (node_acts_among pids) acts) all in
    let both = and_parts (is_among pids (node_actor a)) (is_among pids (receiver (machine_act a)))
    parts.0 in
    let step = has_step s a
    (subst (λ ps. is_among ps (node_actor a) ≡ true) (sym same) both.0)
    (subst (λ ps. is_among ps (receiver (machine_act a)) ≡ true) (sym same) both.1) in
    let rest = runs_from pids step.outcome.after acts (step.pids ∙ same) parts.1 in
    ap (λ o. is_some (option_and_then
    (λ (x : Outcome). option_map (λ os. x ∷ os) (node_run_from x.after acts)) o)) step.steps
    ∙ some_mapped (λ os. step.outcome ∷ os) (node_run_from step.outcome.after acts) rest

pub listed_acts_run : ListedActsRun
listed_acts_run pids acts all = runs_from pids (zero_state pids) acts (zero_pids pids) all
