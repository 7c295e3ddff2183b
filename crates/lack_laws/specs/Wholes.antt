-- All that the processes of a run do: each stamp and each receive of a token, whether it is
-- reported or not.
use Rattle.std.specs.Prelude.{[], ℕ, Bool, true, List, ◌∷◌, ◌++◌, map, Option, Some, None}
use Rattle.std.specs.Prelude.{if◌then◌else◌, is_some, option_map, option_and_then}
use Rattle.st_core.specs.declared.types.Pid.{Pid}
use Rattle.st_core.specs.declared.types.Token.{Token}
use Rattle.st_core.specs.declared.types.Message.{Message}
use Rattle.st_core.specs.declared.types.Event.{Event}
use Rattle.st_core.specs.declared.types.Act.{Act}
use Rattle.st_core.specs.Pid.{pid_eq}
use Rattle.st_core.specs.State.{LocalState, Process, State, process, zero_state}
use Rattle.st_core.specs.Step.{Outcome, acted, actor}
use Rattle.st_core.specs.Run.{Stream, pids_of}
use Rattle.st_plan.specs.Marks.{Marked, Whole}

-- a token with all flags set
abbrev pub loud_token : Token → Token
loud_token t = record t { flags = record { send = true; receive = true; print = true } }

abbrev pub loud_message : Message → Message
loud_message m = record m { token = option_map loud_token m.token }

abbrev pub loud_local : LocalState → LocalState
loud_local l = record l { token = option_map loud_token l.token; traced = true }

-- the process traced, and with all flags set on its token and on each queued one
abbrev pub loud : Process → Process
loud r = record r { local = loud_local r.local; queue = map loud_message r.queue }

-- the event of an act: its report if its process were traced and all flags were set
abbrev pub event_by : ℕ → Process → Act → Option Event
event_by top r a = option_and_then (λ done. done.report) (acted top (loud r) a)

-- the event of an act in state s
abbrev pub event_in : ℕ → State → Act → Option Event
event_in top s a = option_and_then (λ r. event_by top r a) (process s (actor a))

abbrev pub marked_if : Bool → Option Event → List Marked
marked_if told None = []
marked_if told (Some e) = record { event = e; told = told } ∷ []

-- all events of p's acts in a run from s, in order; each is told if its act reported
abbrev pub whole_from : ℕ → State → List Act → List Outcome → Pid → List Marked
whole_from top s [] os p = []
whole_from top s (a ∷ rest) [] p = []
whole_from top s (a ∷ rest) (o ∷ os) p =
    (if pid_eq (actor a) p then marked_if (is_some o.report) (event_in top s a) else [])
    ++ whole_from top o.after rest os p

-- each listed process with all its events in the run
abbrev pub wholes_of : ℕ → List Stream → List Act → List Outcome → List Whole
wholes_of top streams acts os = map (λ x. record {
  pid = x.pid;
  marked = whole_from top (zero_state (pids_of streams)) acts os x.pid;
}) streams
