-- The standard node as a machine. Three acts move other counts than the manual says: a set on no
-- token, a put-back of a token, and the answer that `spawn` waits for. Counts begin again at 0
-- after the greatest. All else is as in the machine of the manual.
--
-- The clock is a counter. Last is kept as a serial shows it, since its upper bits are compared
-- with nothing and shown nowhere. Processes are there from the beginning: the request of a spawn
-- and the reply to it are the new process's first receive and first send.
use Rattle.std.specs.Prelude.{ℕ, Bool, true, false, List, [], ◌∷◌, ◌++◌, Option, Some, None}
use Rattle.std.specs.Prelude.{if◌then◌else◌, option_map, option_and_then, option_to_list}
use Rattle.st_core.specs.declared.types.Pid.{Pid}
use Rattle.st_core.specs.declared.types.Label.{Label}
use Rattle.st_core.specs.declared.types.Serial.{Serial}
use Rattle.st_core.specs.declared.types.Token.{Token}
use Rattle.st_core.specs.declared.types.Message.{Message}
use Rattle.st_core.specs.declared.types.Kind.{Kind}
use Rattle.st_core.specs.declared.types.Event.{Event}
use Rattle.st_core.specs.declared.types.Component.{Component}
use Rattle.st_core.specs.declared.types.Act.{Act}
use Rattle.st_core.specs.declared.types.Act.TheVariants as act
use Rattle.st_core.specs.declared.types.Reply.TheVariants as reply
use Rattle.st_core.specs.declared.types.Want.TheVariants as want
use Rattle.st_core.specs.Pid.{pid_eq}
use Rattle.st_core.specs.Pick.{pick}
use Rattle.st_core.specs.State.{LocalState, Process, State, process, zero_state}
use Rattle.st_core.specs.Local.{default_token, has_label, old_component, with_component}
use Rattle.st_core.specs.Step.{Acted, Outcome, actor, answers, outcome_of, prints, receiver}
use Rattle.st_core.specs.Step.{receives, sends}
use Rattle.node_machine.specs.Counts.{answer_count, next_clock, stamp_count, node_token}
use Rattle.node_machine.specs.Counts.{serial_count}
pub use Rattle.node_machine.specs.declared.types.Seen.{Seen}

-- STAMPS

-- p's token after a stamp: its prev is last, and its count that of the clock after it grew
abbrev pub node_stamped_token : Pid → LocalState → Token → Token
node_stamped_token p l t = record t {
  serial = record { prev = l.last; this = stamp_count l.clock };
  from = p;
}

-- a stamp: the clock grows by one, from the greatest to 0, and the token is stamped, if there is
-- one
abbrev pub after_stamp : Pid → LocalState → LocalState
after_stamp p l = elim l.token [
  | None ↦ l
  | Some t ↦ record l { token = Some (node_stamped_token p l t); clock = next_clock l.clock }
]

-- TOKENS

-- the token that a set makes on no token: its prev is the process's last, and its count 0
abbrev pub fresh_token : Pid → LocalState → Token
fresh_token p l = record (default_token p) { serial = record { prev = l.last; this = 0 } }

-- the token that a set finds or makes
abbrev pub token_to_set : Pid → LocalState → Token
token_to_set p l = elim l.token [ None ↦ fresh_token p l | Some t ↦ t ]

-- a set: the component is set, and both counts stay
abbrev pub after_set : Pid → Component → LocalState → LocalState
after_set p c l = record l { token = Some (with_component c (token_to_set p l)) }

-- a put-back: the clock becomes the token's count, and last its prev
abbrev pub after_put_back : Token → LocalState → LocalState
after_put_back t l = record l {
  token = Some (node_token t);
  clock = serial_count t.serial.this;
  last = serial_count t.serial.prev;
}

-- RECEIVES

-- a message as a node holds it
abbrev pub node_message : Message → Message
node_message m = record m { token = option_map node_token m.token }

abbrev pub node_found : Option (ℕ × Message) → Option (ℕ × Message)
node_found found = option_map (λ x. (x.0, node_message x.1)) found

-- the answer that `spawn` waits for: the process keeps its token, and both counts come from the
-- answer's count
abbrev pub after_answer : LocalState → Option Token → LocalState
after_answer l None = l
after_answer l (Some t) = record l {
  clock = answer_count t.serial.this;
  last = serial_count (answer_count t.serial.this);
}

-- an answer is taken and reported as a receive
abbrev pub takes_answer : Process → Option (ℕ × Message) → Acted
takes_answer r None = receives r None
takes_answer r (Some found) =
    record (receives r (Some found)) { local = after_answer r.local found.1.token }

-- ACTS

-- an act of the node: an act of the manual's machine (Common), or the end of a spawn, which takes
-- the new process's answer from a place of the queue (Answer)
pub data NodeAct : Type 0 where
  Common : Act → NodeAct
  Answer : Pid → ℕ → NodeAct

-- the act of the manual's machine: for an answer, a receive
abbrev pub machine_act : NodeAct → Act
machine_act (Common a) = a
machine_act (Answer p place) = act.Receive p (want.Place place)

abbrev pub is_answer : NodeAct → Bool
is_answer (Common a) = false
is_answer (Answer p place) = true

abbrev pub node_actor : NodeAct → Pid
node_actor a = actor (machine_act a)

-- the actor's part of an act; a reset and a tracer change reach the actor as they reach the others
abbrev pub node_acted : Process → NodeAct → Acted
node_acted r (Common (act.Send p q v)) = sends r q v (after_stamp r.pid r.local)
node_acted r (Common (act.Receive p w)) = receives r (node_found (pick w r.queue))
node_acted r (Common (act.Print p v)) = prints r v (after_stamp r.pid r.local)
node_acted r (Common (act.PrintAt p n v)) =
    if has_label n r.local.token then prints r v (after_stamp r.pid r.local)
    else answers r r.local reply.Done
node_acted r (Common (act.Set p c)) =
    answers r (after_set r.pid c r.local) (reply.Old (old_component c r.local))
node_acted r (Common (act.Clear p)) =
    answers r (record r.local { token = None }) (reply.Previous r.local.token)
node_acted r (Common (act.Restore p t)) =
    answers r (after_put_back t r.local) (reply.Previous r.local.token)
node_acted r (Common (act.Look p)) = answers r r.local (reply.Current r.local.token)
node_acted r (Common (act.Reset p)) = answers r r.local reply.Done
node_acted r (Common (act.Tracer p b)) = answers r r.local (reply.Was r.local.traced)
node_acted r (Answer p place) = takes_answer r (node_found (pick (want.Place place) r.queue))

-- the outcome of an act, if its actor and a send's receiver are there
abbrev pub node_step : State → NodeAct → Option Outcome
node_step s a = option_and_then (λ r.
    option_map (λ _. outcome_of s (machine_act a) (node_acted r a))
    (process s (receiver (machine_act a))))
    (process s (node_actor a))

-- RUNS

-- the outcomes of acts, one after the other from s, if each has a step
abbrev pub node_run_from : State → List NodeAct → Option (List Outcome)
node_run_from s [] = Some []
node_run_from s (a ∷ rest) =
    option_and_then (λ o. option_map (λ os. o ∷ os) (node_run_from o.after rest)) (node_step s a)

-- the outcomes of acts from zero counts over the pids
abbrev pub node_run : List Pid → List NodeAct → Option (List Outcome)
node_run pids acts = node_run_from (zero_state pids) acts

-- an event as its stream shows it
abbrev pub seen : Bool → Event → Seen
seen answer e = record { kind = e.kind; label = e.label; serial = e.serial; answer = answer }

-- the event that an act reports
abbrev pub seen_by : NodeAct → Outcome → Option Seen
seen_by a o = option_map (seen (is_answer a)) o.report

-- p's stream: its events, in order
abbrev pub seen_stream : List NodeAct → List Outcome → Pid → List Seen
seen_stream [] os p = []
seen_stream (a ∷ rest) [] p = []
seen_stream (a ∷ rest) (o ∷ os) p =
    (if pid_eq (node_actor a) p then option_to_list (seen_by a o) else []) ++ seen_stream rest os p
