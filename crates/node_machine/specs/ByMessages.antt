-- If the receives of a process aren't reported, the sends of the messages to it tell the origin of
-- each stamp's token.
use Rattle.std.specs.Prelude.{◌≡◌, ◌⊎◌, ℕ, ◌^◌, ◌<◌, ◌≤◌, ◌==◌, suc, not, Bool, true, List, [], ◌∷◌}
use Rattle.std.specs.Prelude.{◌++◌, false, length, take, Option, Some, None, IsSome, if◌then◌else◌}
use Rattle.std.specs.Prelude.{◌&&◌, is_some, map, option_map, option_to_list, slice_get}
use Rattle.std.specs.List.{AllByRecursion, list_any}
use Rattle.st_core.specs.declared.types.Pid.{Pid}
use Rattle.st_core.specs.declared.types.Label.{Label}
use Rattle.st_core.specs.declared.types.Serial.{Serial}
use Rattle.st_core.specs.declared.types.Message.{Message}
use Rattle.st_core.specs.declared.types.Kind.TheVariants as kind
use Rattle.st_core.specs.declared.types.Event.{Event}
use Rattle.st_core.specs.declared.types.Act.{Act}
use Rattle.st_core.specs.declared.types.Act.TheVariants as act
use Rattle.st_core.specs.declared.types.Want.TheVariants as want
use Rattle.st_core.specs.Pid.{pid_eq}
use Rattle.st_core.specs.Event.{kind_eq, to_eq}
use Rattle.st_core.specs.Laws.{moves_token}
use Rattle.st_core.specs.Pick.{pick}
use Rattle.st_core.specs.Report.{token_event}
use Rattle.st_core.specs.State.{Process, State, process}
use Rattle.st_core.specs.Step.{Outcome}
use Rattle.node_machine.specs.Counts.{answer_count, node_token, serial_count, stamp_count}
use Rattle.node_machine.specs.Node.{Answer, Common, is_answer, machine_act, node_actor}
use Rattle.node_machine.specs.Node.{node_found, NodeAct}
use Rattle.node_machine.specs.Premises.{IsAmong}
use Rattle.node_machine.specs.Given.{fresh}
use Rattle.node_machine.specs.Origins.{AfterRestore, AfterSet, Follows, Held, held_in, Home}
use Rattle.node_machine.specs.Origins.{TokenOrigin}

-- the sends of the messages to a process: gifts may have given it a token, and answers may have
-- answered a spawn of it. Here Follows k is the origin of a token that came with the message of
-- gift k
pub record SendsTo : Type 0 where
  pub gifts : List Event
  pub answers : List Event

-- whether a process may give its token a label, if it stamped the first events and took the
-- messages of the second ones before
abbrev pub LabelRule : Type 0
LabelRule = List Event → List Event → Label → Bool

-- allows any label
abbrev pub any_label : LabelRule
any_label es taken label = true

-- allows a label that is new to the process: neither a stamp nor a message had it
abbrev pub new_label : LabelRule
new_label es taken label = not (list_any (λ e. e.label.0 == label.0) (es ++ taken))

-- allows all labels but one
abbrev pub other_label : Label → LabelRule
other_label own es taken label = not (label.0 == own.0)

-- IN A RUN

-- whether the act stamps a token
abbrev pub stamps_token : Process → Act → Bool
stamps_token r (act.Receive p w) = false
stamps_token r a = moves_token r a

-- p reports each of its acts in a run from s that stamps a token; its receives may go unreported
abbrev pub ReportsStamps : Pid → State → List NodeAct → List Outcome → Type 0
ReportsStamps p s [] os = Unit {0}
ReportsStamps p s (a ∷ rest) [] = Unit {0}
ReportsStamps p s (a ∷ rest) (o ∷ os) =
    (node_actor a ≡ p → (r : Process) → process s p ≡ Some r
    → stamps_token r (machine_act a) ≡ true → IsSome o.report)
    × ReportsStamps p o.after rest os

-- the report, if it is a stamp
abbrev pub stamp_in : Option Event → List Event
stamp_in None = []
stamp_in (Some e) = if kind_eq e.kind kind.Receive then [] else e ∷ []

abbrev pub stamp_by : Pid → NodeAct → Outcome → List Event
stamp_by p a o = if pid_eq (node_actor a) p then stamp_in o.report else []

-- p's stamps, in order: its whole stream, if it reports no receive
abbrev pub stamp_stream : List NodeAct → List Outcome → Pid → List Event
stamp_stream [] os p = []
stamp_stream (a ∷ acts) [] p = []
stamp_stream (a ∷ acts) (o ∷ os) p = stamp_by p a o ++ stamp_stream acts os p

-- the report, if it is a send
abbrev pub send_in : Option Event → Option Event
send_in None = None
send_in (Some e) = if kind_eq e.kind kind.Send then Some e else None

-- the send of a message to p, if the message has a token
abbrev pub message_send : Pid → Option (ℕ × Message) → List Event
message_send p None = []
message_send p (Some found) =
    option_to_list (option_map (λ t. token_event kind.Send t (Some p) found.1.value) found.1.token)

-- the send of the message that an act takes, if the message has a token
abbrev pub message_of : Process → NodeAct → List Event
message_of r (Common (act.Receive p w)) = message_send r.pid (node_found (pick w r.queue))
message_of r (Answer p place) = message_send r.pid (node_found (pick (want.Place place) r.queue))
message_of r a = []

-- the send of a message whose token an act takes: an answer's isn't
abbrev pub taken_by : Process → NodeAct → List Event
taken_by r a = if is_answer a then [] else message_of r a

abbrev pub taken_found : Option Process → NodeAct → List Event
taken_found found a = elim found [ None ↦ [] | Some r ↦ taken_by r a ]

abbrev pub taken_in : State → Pid → NodeAct → List Event
taken_in s p a = if pid_eq (node_actor a) p then taken_found (process s p) a else []

-- the past of a process before an act: its stamps, the sends of the messages that it took, the
-- tokens that it held, the send that its last act reported, and the origin of its token
pub record Past : Type 0 where
  pub stamped : List Event
  pub taken : List Event
  pub held : List Held
  pub asked : Option Event
  pub origin : TokenOrigin

abbrev pub no_past : Past
no_past = record { stamped = []; taken = []; held = []; asked = None; origin = Home }

-- the tokens that p held, with the one that it has now
abbrev pub held_now : Pid → State → Past → List Held
held_now p s past = past.held ++ held_in s p past.origin

-- p's past after an act from s that leaves its token with the origin `now`
abbrev pub past_by : Pid → State → NodeAct → Outcome → TokenOrigin → Past → Past
past_by p s a o now past = record {
  stamped = past.stamped ++ stamp_by p a o;
  taken = past.taken ++ taken_in s p a;
  held = held_now p s past;
  asked = if pid_eq (node_actor a) p then send_in o.report else past.asked;
  origin = now;
}

-- the rule lets a process with the past give its token the label
abbrev pub MayGive : LabelRule → Past → Label → Type 0
MayGive rule past label = rule past.stamped past.taken label ≡ true

-- the origin after a receive: the gift that brought a token, or else the origin before
abbrev pub AfterTake : List Event → List Event → TokenOrigin → TokenOrigin → Type 0
AfterTake gifts [] before now = now ≡ before
AfterTake gifts (e ∷ es) before now =
    (k : ℕ) × (slice_get gifts k ≡ Some e) × (now ≡ Follows k)

-- an answer leaves the origin; if it has a token, its send is one of the answers, and its
-- process's last act was a request to its sender
abbrev pub AfterAnswer : List Event → Option Event → List Event → TokenOrigin → TokenOrigin → Type 0
AfterAnswer answers asked [] before now = now ≡ before
AfterAnswer answers asked (e ∷ es) before now = (now ≡ before) × IsAmong answers e
    × ((request : Event) × (asked ≡ Some request) × (request.to ≡ Some e.from))

-- the origin of the actor's token after its act, if the actor's record is r and it held the tokens
abbrev pub OriginBySends : SendsTo → LabelRule → Past → List Held → Process → NodeAct → TokenOrigin
    → Type 0
OriginBySends sent rule past held r (Common (act.Receive p w)) now =
    AfterTake sent.gifts (message_of r (Common (act.Receive p w))) past.origin now
OriginBySends sent rule past held r (Answer p place) now =
    AfterAnswer sent.answers past.asked (message_of r (Answer p place)) past.origin now
OriginBySends sent rule past held r (Common (act.Set p c)) now =
    AfterSet (MayGive rule past) r.pid r.local r.local.token c past.origin now
OriginBySends sent rule past held r (Common (act.Restore p t)) now =
    AfterRestore (MayGive rule past) held (node_token t) now
OriginBySends sent rule past held r a now = now ≡ past.origin

-- hs are the origins of p's token after each act of a run from s, before which p had the past: so
-- each token that p takes came with a message of the sends, p puts back only tokens of its own,
-- and gives its tokens only labels that the rule allows
abbrev pub OriginsAreBySends : SendsTo → LabelRule → Pid → Past → State → List NodeAct
    → List Outcome
    → List TokenOrigin
    → Type 0
OriginsAreBySends sent rule p past s [] os hs = Unit {0}
OriginsAreBySends sent rule p past s (a ∷ acts) [] hs = Unit {0}
OriginsAreBySends sent rule p past s (a ∷ acts) (o ∷ os) [] = ⊥
OriginsAreBySends sent rule p past s (a ∷ acts) (o ∷ os) (now ∷ hs) =
    (node_actor a ≡ p → (r : Process) → process s p ≡ Some r
    → OriginBySends sent rule past (held_now p s past) r a now)
    × (pid_eq (node_actor a) p ≡ false → now ≡ past.origin)
    × OriginsAreBySends sent rule p (past_by p s a o now past) o.after acts os hs

-- the origins of p's token at p's stamps, in order
abbrev pub stamp_origins : List NodeAct → List Outcome → List TokenOrigin → Pid → List TokenOrigin
stamp_origins [] os hs p = []
stamp_origins (a ∷ acts) [] hs p = []
stamp_origins (a ∷ acts) (o ∷ os) [] p = []
stamp_origins (a ∷ acts) (o ∷ os) (h ∷ hs) p =
    map (λ _. h) (stamp_by p a o) ++ stamp_origins acts os hs p

-- THE SENDS TO A PROCESS

-- whether the act sends its actor's token to p
abbrev pub sends_token_to : Pid → Process → Act → Bool
sends_token_to p r (act.Send q x v) = pid_eq x p && is_some r.local.token
sends_token_to p r a = false

-- each act of a run from s that sends a token to p is reported
abbrev pub ReportsSendsTo : Pid → State → List NodeAct → List Outcome → Type 0
ReportsSendsTo p s [] os = Unit {0}
ReportsSendsTo p s (a ∷ rest) [] = Unit {0}
ReportsSendsTo p s (a ∷ rest) (o ∷ os) =
    ((r : Process) → process s (node_actor a) ≡ Some r
    → sends_token_to p r (machine_act a) ≡ true → IsSome o.report)
    × ReportsSendsTo p o.after rest os

abbrev pub send_to : Pid → Option Event → List Event
send_to p None = []
send_to p (Some e) =
    if kind_eq e.kind kind.Send && to_eq e.to (Some p) then e ∷ [] else []

-- the reported sends to p, in order
abbrev pub sends_to : List Outcome → Pid → List Event
sends_to [] p = []
sends_to (o ∷ os) p = send_to p o.report ++ sends_to os p

-- the send of each message with a token that p takes in a run from s, an answer's too, is among
-- the sends
abbrev pub TakesOnly : List Event → Pid → State → List NodeAct → List Outcome → Type 0
TakesOnly sends p s [] os = Unit {0}
TakesOnly sends p s (a ∷ acts) [] = Unit {0}
TakesOnly sends p s (a ∷ acts) (o ∷ os) =
    (node_actor a ≡ p → (r : Process) → process s p ≡ Some r
    → AllByRecursion (IsAmong sends) (message_of r a))
    × TakesOnly sends p o.after acts os

-- BY THE SENDS

-- a count that a process's clock can have shown up to the end of its stamps
pub data CanBeClock (sent : SendsTo) (es : List Event) : ℕ → Type 0 where
  clock_at_zero : CanBeClock sent es 0
  clock_by_stamp : (e : Event) → IsAmong es e → CanBeClock sent es e.serial.this
  clock_by_gift : (e : Event) → IsAmong sent.gifts e → CanBeClock sent es e.serial.this
  clock_by_answer : (e : Event) → IsAmong sent.answers e
      → CanBeClock sent es (serial_count (answer_count e.serial.this))

-- the serial of a token that a process can have held, if it stamped the events es and took the
-- messages of taken: it stamped the token, took it, or made it when last was 0, the count of a
-- message or an answer, or the prev of a held token
pub data CanBeHeld (sent : SendsTo) (es taken : List Event) : Serial → Type 0 where
  made_at_zero : CanBeHeld sent es taken (fresh 0)
  held_by_stamp : (e : Event) → IsAmong es e → CanBeHeld sent es taken e.serial
  held_by_gift : (e : Event) → IsAmong taken e → CanBeHeld sent es taken e.serial
  made_at_count : (e : Event) → IsAmong taken e → CanBeHeld sent es taken (fresh e.serial.this)
  made_at_answer : (e : Event) → IsAmong sent.answers e
      → CanBeHeld sent es taken (fresh (serial_count (answer_count e.serial.this)))
  made_at_prev : (x : Serial) → CanBeHeld sent es taken x → CanBeHeld sent es taken (fresh x.prev)

-- a count is so great that the process's clock may have wrapped: a stamp adds 1 to it, and an
-- answer makes 16 T + 15 of T
pub record MayHaveWrapped (sent : SendsTo) (es : List Event) : Type 0 where
  pub event : Event
  pub told : IsAmong (es ++ (sent.gifts ++ sent.answers)) event
  pub great : 2 ^ 55 ≤ event.serial.this

-- the message of gift k can have been taken last before the stamp at index i: it has the stamp's
-- label, its count is the stamp's prev, and below the stamp's count unless a clock may have
-- wrapped
pub record IsLastTaken (sent : SendsTo) (es : List Event) (i k : ℕ) : Type 0 where
  pub stamp : Event
  pub is_stamp : slice_get es i ≡ Some stamp
  pub gift : Event
  pub at : slice_get sent.gifts k ≡ Some gift
  pub label : gift.label ≡ stamp.label
  pub prev : gift.serial.this ≡ stamp.serial.prev
  pub clock : ℕ
  pub shown : CanBeClock sent (take i es) clock
  pub count : stamp.serial.this ≡ stamp_count clock
  pub lifted : (gift.serial.this < stamp.serial.this) ⊎ MayHaveWrapped sent es

-- the stamp at index i is the successor of the token that the event shows
pub record IsSuccessorOf (event : Event) (es : List Event) (i : ℕ) : Type 0 where
  pub stamp : Event
  pub is_stamp : slice_get es i ≡ Some stamp
  pub label : event.label ≡ stamp.label
  pub prev : event.serial.prev ≡ stamp.serial.prev
  pub count : stamp.serial.this ≡ stamp_count event.serial.this

-- the stamp at index k is the request of a spawn that its receiver can have answered, and the next
-- stamp, at index i, has its label and goes on from the answer's count
pub record IsAnsweredBetween (sent : SendsTo) (es : List Event) (i k : ℕ) : Type 0 where
  pub stamp : Event
  pub is_stamp : slice_get es i ≡ Some stamp
  pub request : Event
  pub at : slice_get es k ≡ Some request
  pub behind : i ≡ suc k
  pub label : request.label ≡ stamp.label
  pub answer : Event
  pub is_answer : IsAmong sent.answers answer
  pub sender : request.to ≡ Some answer.from
  pub prev : serial_count (answer_count answer.serial.this) ≡ stamp.serial.prev
  pub count : stamp.serial.this ≡ stamp_count (answer_count answer.serial.this)

-- the stamp goes on from counts that its process can have had after the stamps es
pub record MayGoOn (sent : SendsTo) (es : List Event) (stamp : Event) : Type 0 where
  pub last : CanBeHeld sent es sent.gifts (fresh stamp.serial.prev)
  pub clock : ℕ
  pub shown : CanBeClock sent es clock
  pub count : stamp.serial.this ≡ stamp_count clock

-- the process may have given its token the stamp's label after the front stamps and some of the
-- gifts: right before the stamp, or earlier, and then the stamp is the successor of a token that
-- it held by then
pub record IsAtHomeBySends (sent : SendsTo) (rule : LabelRule) (es : List Event)
    (i : ℕ) : Type 0 where
  pub stamp : Event
  pub is_stamp : slice_get es i ≡ Some stamp
  pub front : List Event
  pub rest : List Event
  pub split : es ≡ front ++ rest
  pub within : length front ≤ i
  pub taken : List Event
  pub gifts : AllByRecursion (IsAmong sent.gifts) taken
  pub own : rule front taken stamp.label ≡ true
  pub way : ((length front ≡ i) × MayGoOn sent front stamp)
      ⊎ ((token : Serial) × CanBeHeld sent front taken token
      × (token.prev ≡ stamp.serial.prev) × (stamp.serial.this ≡ stamp_count token.this))

-- the stamp is the successor of a token that was held before the stamp at index k, and that no
-- message with the stamp's label brought
pub record IsEarlierToken (sent : SendsTo) (es : List Event) (stamp : Event) (k : ℕ) : Type 0 where
  pub front : List Event
  pub rest : List Event
  pub split : es ≡ front ++ rest
  pub within : length front ≤ k
  pub taken : List Event
  pub gifts : AllByRecursion (IsAmong sent.gifts) taken
  pub others : AllByRecursion (λ e. ¬ (e.label ≡ stamp.label)) taken
  pub token : Serial
  pub held : CanBeHeld sent front taken token
  pub prev : token.prev ≡ stamp.serial.prev
  pub count : stamp.serial.this ≡ stamp_count token.this

-- the origins that a process's stamps and the sends to it allow for its stamp at an index: a
-- message that it took last; a message whose token it put back; an origin that is allowed for an
-- earlier stamp whose token it put back, or for the stamp right before, if that is the request of
-- a spawn whose answer came between; and home
pub data CanBySends (sent : SendsTo) (rule : LabelRule) (es : List Event)
    : ℕ → TokenOrigin → Type 0 where
  gift_taken : (i k : ℕ) → IsLastTaken sent es i k → CanBySends sent rule es i (Follows k)
  gift_put_back : (i k : ℕ) (e : Event) → slice_get sent.gifts k ≡ Some e → IsSuccessorOf e es i
      → CanBySends sent rule es i (Follows k)
  stamp_put_back : (i k : ℕ) (h : TokenOrigin) (e : Event) → k < i → slice_get es k ≡ Some e
      → IsSuccessorOf e es i
      → CanBySends sent rule es k h → CanBySends sent rule es i h
  token_kept : (i k : ℕ) (h : TokenOrigin) → IsAnsweredBetween sent es i k
      → CanBySends sent rule es k h
      → CanBySends sent rule es i h
  token_at_home : (i : ℕ) → IsAtHomeBySends sent rule es i → CanBySends sent rule es i Home
