-- A step changes the actor at the actor's place, and then the processes that it reaches.
use Rattle.std.proofs.Common.{◌≡◌, ℕ, true, List, map, set, slice_get, Option, Some, refl, sym, ◌∙◌}
use Rattle.std.proofs.Common.{ap, subst, if◌then◌else◌}
use Rattle.std.proofs.lemmas.Simd.{map-map}
use Rattle.st_core.specs.declared.types.Message.{Message}
use Rattle.st_core.specs.declared.types.Token.{Token}
use Rattle.st_core.specs.declared.types.Event.{Event}
use Rattle.st_core.specs.declared.types.Act.{Act}
use Rattle.st_core.specs.declared.types.Act.TheVariants as act
use Rattle.st_core.specs.Pid.{pid_eq, IsRising}
use Rattle.st_core.specs.State.{LocalState, Process, State, process}
use Rattle.st_core.specs.Step.{Acted, actor, changed, outcome_of, reached, receiver}
use Rattle.st_core.proofs.ForCallers.{pid_eq-same}
use Rattle.st_mail.specs.Actor.{process_of, is_inner}
use Rattle.node_machine.specs.Node.{machine_act, node_acted, node_actor, NodeAct}
use Rattle.node_check.specs.Steps.{IsNodePart, IsStepOnNode}
use Rattle.node_check.proofs.States.{found, map_one, map_same, pids_in}

-- the act touches its actor alone
pub record IsAlone (a : Act) : Type 0 where
  pub receiver : receiver a ≡ actor a
  pub reached : (t : Option Token) (x : Process) → reached a t x ≡ x

pub inner_alone : (a : Act) → is_inner a ≡ true → IsAlone a
inner_alone (act.Send p q v) h = absurd (cc)
inner_alone (act.Receive p w) h = absurd (cc)
inner_alone (act.Reset p) h = absurd (cc)
inner_alone (act.Tracer p b) h = absurd (cc)
inner_alone a h = record { receiver = refl; reached = λ t x. refl }

module _ (s : State) (i : ℕ) (r : Process) (a : NodeAct) (rising : IsRising (pids_in s))
    (at : slice_get s i ≡ Some r) (own : r.pid ≡ node_actor a) where
  abbrev pub done : Acted
  done = node_acted r a

  -- the change of the act to a process that it reaches
  abbrev pub reach : Process → Process
  reach = reached (machine_act a) done.local.token

  -- the actor's process after the act, before the act reaches others
  abbrev pub acted_process : Process
  acted_process = record r { local = done.local; queue = done.queue }

  here : process s (node_actor a) ≡ Some r
  here = ap (process s) (sym own) ∙ found s i r rising at

  abbrev pub mine : Process → Process
  mine x = if pid_eq x.pid (node_actor a)
      then record x { local = done.local; queue = done.queue }
      else x

  mine_is : map mine s ≡ set s i acted_process
  mine_is =
      map_one s i r mine rising at (λ x other. rw (sym own, other) refl)
      ∙ ap (set s i) (rw (sym own, pid_eq-same r.pid) refl)

  after_is : map (changed (machine_act a) done) s ≡ map reach (set s i acted_process)
  after_is = sym (map-map reach mine s) ∙ ap (map reach) mine_is

  -- the act has its step if its receiver is there
  pub step_is : (q : Process) → process s (receiver (machine_act a)) ≡ Some q
      → (new : State) → map reach (set s i acted_process) ≡ new
      → IsStepOnNode s a done.report new
  step_is q there new is = record {
    outcome = outcome_of s (machine_act a) done;
    steps = rw (here, there) refl;
    is_report = refl;
    is_after = after_is ∙ is;
  }

  pub step_alone : IsAlone (machine_act a)
      → IsStepOnNode s a done.report (set s i acted_process)
  step_alone alone =
      step_is r (ap (process s) alone.receiver ∙ here) (set s i acted_process)
      (map_same reach (set s i acted_process) (alone.reached done.local.token))

  -- an act that touches its actor alone writes its part
  pub step_by_part : (l : LocalState) (b : List Message) (told : Option Event)
      → IsAlone (machine_act a) → IsNodePart r a l b told
      → IsStepOnNode s a told (set s i (process_of r.pid l b))
  step_by_part l b told alone part =
      subst (λ e. IsStepOnNode s a e (set s i (process_of r.pid l b))) part.is_report
      (subst (λ (x : Process). IsStepOnNode s a done.report (set s i x))
      (ap (λ k. process_of r.pid k done.queue) part.is_local
      ∙ ap (process_of r.pid l) part.is_queue)
      (step_alone alone))
