-- A process that reports its stamps reports its sends of tokens, and the streams list all
-- processes that act.
use Rattle.std.proofs.Common.{◌≡◌, true, false, cond, Bool, List, [], ◌∷◌, Some, None, is_some}
use Rattle.std.proofs.Common.{refl, sym, ◌∙◌, subst}
use Rattle.std.specs.List.{AllByRecursion}
use Rattle.std.proofs.lemmas.Option.{none-some}
use Rattle.st_core.specs.declared.types.Pid.{Pid}
use Rattle.st_core.specs.declared.types.Act.{Act}
use Rattle.st_core.specs.declared.types.Act.TheVariants as act
use Rattle.st_core.specs.Laws.{moves_token}
use Rattle.st_core.specs.Pid.{pid_eq}
use Rattle.st_core.specs.Run.{Stream}
use Rattle.st_core.specs.State.{Process, process, State, zero_local, zero_state}
use Rattle.st_core.specs.Step.{changed, Outcome}
use Rattle.st_core.specs.Streams.{lists}
use Rattle.st_core.proofs.ForCallers.{mapped, pid_eq-true}
use Rattle.node_machine.specs.Node.{machine_act, NodeAct, node_actor, node_run, node_run_from}
use Rattle.node_machine.specs.Premises.{ReportsTokens}
use Rattle.node_machine.proofs.ForCallers.{node_process_after, node_run_parts, NodeStepped}
use Rattle.node_machine.proofs.ForCallers.{node_step_parts}
use Rattle.node_streams.specs.Runs.{ReportSends, token_receiver}

some_if : (b : Bool) (q x : Pid) → cond b (Some q) None ≡ Some x → b ≡ true
some_if true q x is = refl
some_if false q x is = absurd (none-some x is)

send_moves : (r : Process) (a : Act) (q : Pid) → token_receiver r a ≡ Some q
    → moves_token r a ≡ true
send_moves r (act.Send p x v) q is = some_if (is_some r.local.token) x q is
send_moves r a q is = absurd (none-some q is)

-- if P holds of all pids, it holds of each process at the start
zero_all : (P : Pid → Type 0) (pids : List Pid) → AllByRecursion P pids → (p : Pid) (r : Process)
    → process (zero_state pids) p ≡ Some r → P p
zero_all P [] all p r is = absurd (none-some r is)
zero_all P (q ∷ pids) all p r is =
    let first : Process = record { pid = q; local = zero_local; queue = [] } in
    (elim (pid_eq q p) as (λ b. pid_eq q p ≡ b
    → cond b (Some first) (process (zero_state pids) p) ≡ Some r → P p) [
      | true ↦ λ same _. subst P (pid_eq-true q p same) all.0
      | false ↦ λ _ later. zero_all P pids all.1 p r later
    ]) refl is

-- each process is listed, and reports its stamps and receives of tokens
abbrev AllReport : List Stream → State → List NodeAct → List Outcome → Type 0
AllReport streams s acts os = (p : Pid) (r : Process) → process s p ≡ Some r
    → (lists streams p ≡ true) × ReportsTokens p s acts os

report_later : (streams : List Stream) (s : State) (a : NodeAct) (rest : List NodeAct)
    (o : Outcome) (others : List Outcome) → NodeStepped s a o
    → AllReport streams s (a ∷ rest) (o ∷ others)
    → AllReport streams o.after rest others
report_later streams s a rest o others t all p r is =
    let parts = mapped (changed (machine_act a) t.done) (process s p) r
    (sym (node_process_after s a o t p) ∙ is) in
    let so = all p parts.0 parts.1 in
    (so.0, so.1.1)

sends_from : (streams : List Stream) (acts : List NodeAct) (s : State) (os : List Outcome)
    → node_run_from s acts ≡ Some os → AllReport streams s acts os
    → ReportSends streams s acts os
sends_from streams [] s os runs all = tt
sends_from streams (a ∷ rest) s [] runs all = tt
sends_from streams (a ∷ rest) s (o ∷ os) runs all =
    let run = node_run_parts s a rest (o ∷ os) runs in (
      λ r is q receiver _.
          let so = all (node_actor a) r is in
          (so.0, so.1.0 refl r is (send_moves r (machine_act a) q receiver)),
      sends_from streams rest o.after os run.1
          (report_later streams s a rest o os (node_step_parts s a o run.0) all),
    )

pub sends_of_all : (streams : List Stream) (pids : List Pid) (acts : List NodeAct)
    (os : List Outcome) → node_run pids acts ≡ Some os
    → AllByRecursion (λ p. lists streams p ≡ true) pids
    → AllByRecursion (λ p. ReportsTokens p (zero_state pids) acts os) pids
    → ReportSends streams (zero_state pids) acts os
sends_of_all streams pids acts os runs listed reports =
    sends_from streams acts (zero_state pids) os runs (λ p r is. (
      zero_all (λ q. lists streams q ≡ true) pids listed p r is,
      zero_all (λ q. ReportsTokens q (zero_state pids) acts os) pids reports p r is,
    ))
