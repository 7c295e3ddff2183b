-- The premises under which the streams of a run tell of a process's tokens.
use Rattle.std.specs.Prelude.{◌≡◌, ◌⊎◌, ℕ, ◌+◌, Bool, true, false, ◌&&◌, List, [], ◌∷◌, ◌++◌}
use Rattle.std.specs.Prelude.{length, Option, Some, None, if◌then◌else◌, is_some, IsSome}
use Rattle.std.specs.Prelude.{option_map, option_to_list, count_by, option_and_then}
use Rattle.std.specs.List.{AllByRecursion}
use Rattle.st_core.specs.declared.types.Pid.{Pid}
use Rattle.st_core.specs.declared.types.Serial.{Serial}
use Rattle.st_core.specs.declared.types.Token.{Token}
use Rattle.st_core.specs.declared.types.Act.{Act}
use Rattle.st_core.specs.declared.types.Act.TheVariants as act
use Rattle.st_core.specs.Pid.{pid_eq}
use Rattle.st_core.specs.State.{Process, State, process}
use Rattle.st_core.specs.Step.{Outcome}
use Rattle.st_core.specs.Laws.{is_reset, moves_token}
use Rattle.node_machine.specs.Counts.{node_token}
use Rattle.node_machine.specs.Node.{NodeAct, Common, machine_act, node_actor, Seen, seen_by}

-- x is a member of the list
abbrev pub IsAmong : {A : Type 0} → List A → A → Type 0
IsAmong [] x = ⊥
IsAmong (y ∷ ys) x = (y ≡ x) ⊎ IsAmong ys x

-- none of the acts is a reset
abbrev pub NoNodeReset : List NodeAct → Type 0
NoNodeReset acts = AllByRecursion (λ a. is_reset (machine_act a) ≡ false) acts

-- p reports each of its acts in a run from s that stamps a token, or takes a message with one
abbrev pub ReportsTokens : Pid → State → List NodeAct → List Outcome → Type 0
ReportsTokens p s [] os = Unit {0}
ReportsTokens p s (a ∷ rest) [] = Unit {0}
ReportsTokens p s (a ∷ rest) (o ∷ os) =
    (node_actor a ≡ p → (r : Process) → process s p ≡ Some r → moves_token r (machine_act a) ≡ true
    → IsSome o.report)
    × ReportsTokens p o.after rest os

-- the token that an act puts back
abbrev pub token_put_back : NodeAct → Option Token
token_put_back (Common (act.Restore p t)) = Some (node_token t)
token_put_back a = None

-- the serial of p's token, if p has a token
abbrev pub serials_in : State → Pid → List Serial
serials_in s p =
    option_to_list (option_map (λ t. t.serial) (option_and_then (λ r. r.local.token) (process s p)))

-- p puts back only tokens with a serial that it held before, in a run from s; held has the serials
-- from before s. Their labels and flags may be others
abbrev pub PutsBackOwn : Pid → List Serial → State → List NodeAct → List Outcome → Type 0
PutsBackOwn p held s [] os = Unit {0}
PutsBackOwn p held s (a ∷ rest) [] = Unit {0}
PutsBackOwn p held s (a ∷ rest) (o ∷ os) =
    (node_actor a ≡ p → (t : Token) → token_put_back a ≡ Some t
    → IsAmong (held ++ serials_in s p) t.serial)
    × PutsBackOwn p (held ++ serials_in s p) o.after rest os

-- the number of tokens that p puts back
abbrev pub put_backs : Pid → List NodeAct → ℕ
put_backs p [] = 0
put_backs p (a ∷ rest) =
    (if pid_eq (node_actor a) p && is_some (token_put_back a) then 1 else 0) + put_backs p rest

-- the number of tokens that all processes put back
abbrev pub all_put_backs : List NodeAct → ℕ
all_put_backs acts = count_by (λ a. is_some (token_put_back a)) acts

-- the event of p that an act reports
abbrev pub told_by : Pid → NodeAct → Outcome → List Seen
told_by p a o = if pid_eq (node_actor a) p then option_to_list (seen_by a o) else []

-- the place of each put-back of p in a run: the number of events that p reported before it, the
-- front ones too
abbrev pub places : Pid → List Seen → List NodeAct → List Outcome → List ℕ
places p front [] os = []
places p front (a ∷ acts) [] = []
places p front (a ∷ acts) (o ∷ os) =
    (if pid_eq (node_actor a) p && is_some (token_put_back a) then length front ∷ [] else [])
    ++ places p (front ++ told_by p a o) acts os

-- whether an act receives a message with a token
abbrev pub takes_token : Process → Act → Bool
takes_token r (act.Receive p w) = moves_token r (act.Receive p w)
takes_token r a = false

-- p reports each of its acts in a run from s that takes a message with a token; its stamps may go
-- unreported
abbrev pub ReportsTaken : Pid → State → List NodeAct → List Outcome → Type 0
ReportsTaken p s [] os = Unit {0}
ReportsTaken p s (a ∷ rest) [] = Unit {0}
ReportsTaken p s (a ∷ rest) (o ∷ os) =
    (node_actor a ≡ p → (r : Process) → process s p ≡ Some r
    → takes_token r (machine_act a) ≡ true → IsSome o.report)
    × ReportsTaken p o.after rest os
