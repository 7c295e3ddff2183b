-- The origin of a stamp's token in a run of the node, and the origins that its process's events
-- allow.
use Rattle.std.specs.Prelude.{◌≡◌, ◌⊎◌, ℕ, ◌<◌, ◌≤◌, suc, Bool, true, false, List, [], ◌∷◌, ◌++◌}
use Rattle.std.specs.Prelude.{length, max, take, Option, Some, None, if◌then◌else◌, is_some}
use Rattle.std.specs.Prelude.{option_map, option_to_list, option_and_then, slice_get}
use Rattle.std.specs.List.{AllByRecursion}
use Rattle.std.specs.Option.{option_map_or}
use Rattle.st_core.specs.declared.types.Pid.{Pid}
use Rattle.st_core.specs.declared.types.Label.{Label}
use Rattle.st_core.specs.declared.types.Serial.{Serial}
use Rattle.st_core.specs.declared.types.Token.{Token}
use Rattle.st_core.specs.declared.types.Component.{Component}
use Rattle.st_core.specs.declared.types.Component.TheVariants as component
use Rattle.st_core.specs.declared.types.Kind.TheVariants as kind
use Rattle.st_core.specs.declared.types.Act.TheVariants as act
use Rattle.st_core.specs.Pid.{pid_eq}
use Rattle.st_core.specs.State.{LocalState, Process, State, process}
use Rattle.st_core.specs.Local.{with_component}
use Rattle.st_core.specs.Event.{kind_eq}
use Rattle.st_core.specs.Step.{Outcome}
use Rattle.st_core.specs.Laws.{moves_token}
use Rattle.node_machine.specs.Counts.{answer_count, stamp_count, node_token, serial_count}
use Rattle.node_machine.specs.Node.{fresh_token, is_answer, node_actor, NodeAct, Common, Seen}
use Rattle.node_machine.specs.Node.{seen_by, seen_stream}
use Rattle.node_machine.specs.Premises.{IsAmong, told_by}
use Rattle.node_machine.specs.Readings.{is_receipt}
use Rattle.node_machine.specs.Given.{IsPutBack, IsStraight, tokens}

-- Follows k: the token came with the message of its process's event k. Home: its process made the
-- token, or set its label
pub data TokenOrigin : Type 0 where
  Follows : ℕ → TokenOrigin
  Home : TokenOrigin

-- a token that a process held, with its origin
pub record Held : Type 0 where
  pub serial : Serial
  pub label : Label
  pub origin : TokenOrigin

-- IN A RUN

-- the event shows that its process's token had the label; an answer's token isn't taken
abbrev pub Bears : Label → Seen → Type 0
Bears label e = (e.answer ≡ false) × (e.label ≡ label)

-- the first of the events that bears the label, if there is one, is a stamp
abbrev pub StampsFirst : Label → List Seen → Type 0
StampsFirst label [] = Unit {0}
StampsFirst label (e ∷ es) =
    (Bears label e → is_receipt e ≡ false) × (¬ (Bears label e) → StampsFirst label es)

-- a process may give its token the label between the front events and the rest: no front event
-- bears it, and the process stamps with it before it receives it
pub record IsOwnLabel (front rest : List Seen) (label : Label) : Type 0 where
  pub new : AllByRecursion (λ e. ¬ (Bears label e)) front
  pub stamps : StampsFirst label rest

-- a set that makes a token or sets its label makes home its origin, and the label has to be the
-- process's own; another set keeps the origin
abbrev pub AfterSet : (Label → Type 0) → Pid → LocalState → Option Token → Component → TokenOrigin
    → TokenOrigin
    → Type 0
AfterSet Own p l None c before now =
    (now ≡ Home) × Own (with_component c (fresh_token p l)).label
AfterSet Own p l (Some t) (component.Label x) before now = (now ≡ Home) × Own x
AfterSet Own p l (Some t) (component.Send b) before now = now ≡ before
AfterSet Own p l (Some t) (component.Receive b) before now = now ≡ before
AfterSet Own p l (Some t) (component.Print b) before now = now ≡ before

-- a put-back token was held before: it keeps its label and origin, or has a label of the process's
-- own and is at home
abbrev pub AfterRestore : (Label → Type 0) → List Held → Token → TokenOrigin → Type 0
AfterRestore Own held t now = (x : Held) × IsAmong held x × (x.serial ≡ t.serial)
    × (((x.label ≡ t.label) × (now ≡ x.origin)) ⊎ ((now ≡ Home) × Own t.label))

-- the origin `now` of the actor's token after its act, which had the origin `before`: the actor,
-- whose record is r, reported the front events, has the rest left, and held the tokens
abbrev pub OriginAfter : List Seen → List Seen → List Held → Process → NodeAct → TokenOrigin
    → TokenOrigin
    → Type 0
OriginAfter front rest held r (Common (act.Receive p w)) before now =
    now ≡ (if moves_token r (act.Receive p w) then Follows (length front) else before)
OriginAfter front rest held r (Common (act.Set p c)) before now =
    AfterSet (IsOwnLabel front rest) r.pid r.local r.local.token c before now
OriginAfter front rest held r (Common (act.Restore p t)) before now =
    AfterRestore (IsOwnLabel front rest) held (node_token t) now
OriginAfter front rest held r a before now = now ≡ before

-- p's token with the origin h, if p has a token
abbrev pub held_in : State → Pid → TokenOrigin → List Held
held_in s p h = option_to_list (option_map
    (λ t. record { serial = t.serial; label = t.label; origin = h })
    (option_and_then (λ r. r.local.token) (process s p)))

-- hs are the origins of p's token after each act of a run from s, before which p reported the
-- front events, held the tokens, and had a token with the origin `before`: so p puts back only
-- tokens of its own, and gives its tokens only labels of its own
abbrev pub OriginsAre : Pid → List Seen → List Held → TokenOrigin → State → List NodeAct
    → List Outcome
    → List TokenOrigin
    → Type 0
OriginsAre p front held before s [] os hs = Unit {0}
OriginsAre p front held before s (a ∷ acts) [] hs = Unit {0}
OriginsAre p front held before s (a ∷ acts) (o ∷ os) [] = ⊥
OriginsAre p front held before s (a ∷ acts) (o ∷ os) (now ∷ hs) =
    (node_actor a ≡ p → (r : Process) → process s p ≡ Some r
    → OriginAfter front (seen_stream (a ∷ acts) (o ∷ os) p) (held ++ held_in s p before) r a before
    now)
    × (pid_eq (node_actor a) p ≡ false → now ≡ before)
    × OriginsAre p (front ++ told_by p a o) (held ++ held_in s p before) now o.after acts os hs

-- the origins of p's token at p's events, in order
abbrev pub origins_told : List NodeAct → List Outcome → List TokenOrigin → Pid → List TokenOrigin
origins_told [] os hs p = []
origins_told (a ∷ acts) [] hs p = []
origins_told (a ∷ acts) (o ∷ os) [] p = []
origins_told (a ∷ acts) (o ∷ os) (h ∷ hs) p =
    (if pid_eq (node_actor a) p then option_to_list (option_map (λ _. h) (seen_by a o)) else [])
    ++ origins_told acts os hs p

-- whether the act reported a send
abbrev pub told_send : Outcome → Bool
told_send o = option_map_or (λ e. kind_eq e.kind kind.Send) o.report false

-- each answer that p reports comes right after an act of p that reported a send, its request; sent
-- says whether p's last act before the run did
abbrev pub AnswersComeNext : Pid → Bool → List NodeAct → List Outcome → Type 0
AnswersComeNext p sent [] os = Unit {0}
AnswersComeNext p sent (a ∷ acts) [] = Unit {0}
AnswersComeNext p sent (a ∷ acts) (o ∷ os) =
    (node_actor a ≡ p → is_answer a ≡ true → is_some o.report ≡ true → sent ≡ true)
    × AnswersComeNext p (if pid_eq (node_actor a) p then told_send o else sent) acts os

-- BY EVENTS

-- the receive at index k is right before the stamp at index i and has its label; the events before
-- the receive lead to counts which it lifts, and from which the stamp then goes on
pub record IsTaken (es : List Seen) (i k : ℕ) : Type 0 where
  pub stamp : Seen
  pub is_stamp : slice_get es i ≡ Some stamp
  pub event : Seen
  pub at : slice_get es k ≡ Some event
  pub before : i ≡ suc k
  pub receive : is_receipt event ≡ true
  pub own : event.answer ≡ false
  pub label : event.label ≡ stamp.label
  pub clock : ℕ
  pub last : ℕ
  pub way : IsStraight (take k es) clock last ⊎ IsPutBack (take k es) clock last
  pub prev : event.serial.this ≡ stamp.serial.prev
  pub count : stamp.serial.this ≡ stamp_count (max clock event.serial.this)

-- the event at index k, a receive or a stamp, comes before the stamp at index i, which is the
-- successor of its token
pub record IsSuccessor (receive : Bool) (es : List Seen) (i k : ℕ) : Type 0 where
  pub stamp : Seen
  pub is_stamp : slice_get es i ≡ Some stamp
  pub event : Seen
  pub at : slice_get es k ≡ Some event
  pub before : k < i
  pub kind : is_receipt event ≡ receive
  pub own : event.answer ≡ false
  pub label : event.label ≡ stamp.label
  pub prev : event.serial.prev ≡ stamp.serial.prev
  pub count : stamp.serial.this ≡ stamp_count event.serial.this

-- after the stamp at index k come an answer and then the stamp at index i, which has its label and
-- goes on from the answer's count
pub record IsAnsweredAt (es : List Seen) (i k : ℕ) : Type 0 where
  pub stamp : Seen
  pub is_stamp : slice_get es i ≡ Some stamp
  pub event : Seen
  pub at : slice_get es k ≡ Some event
  pub kind : is_receipt event ≡ false
  pub label : event.label ≡ stamp.label
  pub answer : Seen
  pub answer_at : slice_get es (suc k) ≡ Some answer
  pub answers : answer.answer ≡ true
  pub behind : i ≡ suc (suc k)
  pub prev : serial_count (answer_count answer.serial.this) ≡ stamp.serial.prev
  pub count : stamp.serial.this ≡ stamp_count (answer_count answer.serial.this)

-- the process may have given its token the stamp's label after the front events: right before the
-- stamp, or earlier, and then the stamp is the successor of a token that it held by then
pub record IsAtHome (es : List Seen) (i : ℕ) : Type 0 where
  pub stamp : Seen
  pub is_stamp : slice_get es i ≡ Some stamp
  pub front : List Seen
  pub rest : List Seen
  pub split : es ≡ front ++ rest
  pub within : length front ≤ i
  pub own : IsOwnLabel front rest stamp.label
  pub way : (length front ≡ i) ⊎ ((token : Serial) × IsAmong (tokens front) token
      × (token.prev ≡ stamp.serial.prev) × (stamp.serial.this ≡ stamp_count token.this))

-- the origins that a process's events allow for its stamp at an index: the receive right before
-- it; an earlier receive of the token that it succeeds; an origin that is allowed for an earlier
-- stamp with that token, or for the stamp whose answer is right before it; and home
pub data Can (es : List Seen) : ℕ → TokenOrigin → Type 0 where
  taken : (i k : ℕ) → IsTaken es i k → Can es i (Follows k)
  received : (i k : ℕ) → IsSuccessor true es i k → Can es i (Follows k)
  stamped : (i k : ℕ) (h : TokenOrigin) → IsSuccessor false es i k → Can es k h → Can es i h
  answered : (i k : ℕ) (h : TokenOrigin) → IsAnsweredAt es i k → Can es k h → Can es i h
  home : (i : ℕ) → IsAtHome es i → Can es i Home
