-- The gift behind a stamp in a run of the node: the latest earlier act of its process that gave
-- the process its token, or gave that token its label. Nothing of counts or of events is in it.
use Rattle.std.specs.Prelude.{ℕ, ◌||◌, zero, suc, Bool, true, false, List, [], Option, Some}
use Rattle.std.specs.Prelude.{None, if◌then◌else◌, is_none, slice_get, option_and_then}
use Rattle.st_core.specs.declared.types.Pid.{Pid}
use Rattle.st_core.specs.declared.types.Component.{Component}
use Rattle.st_core.specs.declared.types.Component.TheVariants as component
use Rattle.st_core.specs.declared.types.Act.TheVariants as act
use Rattle.st_core.specs.Pid.{pid_eq}
use Rattle.st_core.specs.State.{Process, State, process, zero_state}
use Rattle.st_core.specs.Step.{Outcome}
use Rattle.st_core.specs.Laws.{moves_token}
use Rattle.node_machine.specs.Node.{Answer, Common, NodeAct, node_actor}

-- Follows n: act n took the message that brought the token. Begins n: act n made the token, or set
-- its label. PutsBack n: act n put the token back
pub data Gift : Type 0 where
  Follows : ℕ → Gift
  Begins : ℕ → Gift
  PutsBack : ℕ → Gift

abbrev pub sets_label : Component → Bool
sets_label (component.Label x) = true
sets_label c = false

-- the gift of act n to its actor, whose record before the act is r
abbrev pub gift_by : ℕ → Process → NodeAct → Option Gift
gift_by n r (Common (act.Receive p w)) =
    if moves_token r (act.Receive p w) then Some (Follows n) else None
gift_by n r (Common (act.Set p c)) =
    if sets_label c || is_none r.local.token then Some (Begins n) else None
gift_by n r (Common (act.Restore p t)) = Some (PutsBack n)
gift_by n r a = None

-- the state before act n of a run from s
abbrev pub state_at : State → List Outcome → ℕ → State
state_at s os zero = s
state_at s os (suc n) = elim (slice_get os n) [ None ↦ [] | Some o ↦ o.after ]

-- the gift of act n to p, if the act is p's
abbrev pub gift_to : Pid → ℕ → State → NodeAct → Option Gift
gift_to p n s a = if pid_eq (node_actor a) p
    then option_and_then (λ r. gift_by n r a) (process s p) else None

-- the gift of act n of a run to p
abbrev pub act_gift : List Pid → List NodeAct → List Outcome → Pid → ℕ → Option Gift
act_gift pids acts os p n =
    option_and_then (gift_to p n (state_at (zero_state pids) os n)) (slice_get acts n)

-- the gift behind a stamp of p at act n: that of the latest act before it that gave p one
abbrev pub latest_gift : List Pid → List NodeAct → List Outcome → Pid → ℕ → Option Gift
latest_gift pids acts os p zero = None
latest_gift pids acts os p (suc n) = elim (act_gift pids acts os p n) [
  | None ↦ latest_gift pids acts os p n
  | Some o ↦ Some o
]

-- whether an act moves its actor's counters and receives no token: it puts one back, or ends a
-- spawn
abbrev pub moves_counters : NodeAct → Bool
moves_counters (Common (act.Restore p t)) = true
moves_counters (Answer p place) = true
moves_counters a = false
