-- The claims of hops about a run of the node, in the machine's words. The sentences are those of
-- `gemshowal why`. Nothing of counts is in the claims, and of streams only where an event is.
use Rattle.std.specs.Prelude.{◌≡◌, ◌≢◌, ℕ, ◌<◌, ◌≤◌, ◌⊎◌, suc, true, false, List, map, Option}
use Rattle.std.specs.Prelude.{Some, None, length, slice_get, take, option_and_then, IsSome}
use Rattle.st_core.specs.declared.types.Pid.{Pid}
use Rattle.st_core.specs.declared.types.Label.{Label}
use Rattle.st_core.specs.declared.types.Token.{Token}
use Rattle.st_core.specs.declared.types.Event.{Event}
use Rattle.st_core.specs.declared.types.Kind.TheVariants as kind
use Rattle.st_core.specs.declared.types.Act.TheVariants as act
use Rattle.st_core.specs.State.{Process, process}
use Rattle.st_core.specs.Step.{Outcome}
use Rattle.st_core.specs.Report.{token_event}
use Rattle.st_core.specs.Run.{Stream, stream}
use Rattle.st_core.specs.Laws.{ReportsEvent}
use Rattle.node_machine.specs.Node.{machine_act, NodeAct, node_actor, node_run}
use Rattle.node_machine.specs.Premises.{NoNodeReset}
use Rattle.node_streams.specs.declared.content.MessageContent.{MessageContent}
use Rattle.node_streams.specs.Messages.{content_of}
use Rattle.node_streams.specs.Runs.{AreReported, node_stream}
use Rattle.node_hops.specs.Gifts.{Gift, Begins, Follows, act_gift, moves_counters, latest_gift}
use Rattle.node_hops.specs.declared.hop.NodeHop.{NodeHop}
use Rattle.node_hops.specs.declared.hop.NodeHop.TheVariants as hop
use Rattle.node_hops.specs.declared.hop.NodePremises.TheVariants as premises
use Rattle.node_hops.specs.declared.hop.NodePremises.{NodePremises}
use Rattle.node_hops.specs.Hops.{events_before, node_premises_of}

-- act n reports event i of p
abbrev pub NodeReports : List NodeAct → List Outcome → Pid → ℕ → Event → ℕ → Type 0
NodeReports acts os p i e n = ReportsEvent (map machine_act acts) os p i e n

-- the number of events that p reported before act n
abbrev pub told_before : List NodeAct → List Outcome → Pid → ℕ → ℕ
told_before acts os p n = length (stream (take n (map machine_act acts)) (take n os) p)

-- act n reported nothing
abbrev pub IsSilent : List Outcome → ℕ → Type 0
IsSilent os n = option_and_then (λ o. o.report) (slice_get os n) ≡ None

abbrev pub IsReported : List Outcome → ℕ → Type 0
IsReported os n = IsSome (option_and_then (λ o. o.report) (slice_get os n))

-- MESSAGES

-- act s sends a message with the content c, by the token that its actor has after it
pub record SendsLike (acts : List NodeAct) (os : List Outcome) (c : MessageContent)
    (s : ℕ) : Type 0 where
  pub sending : NodeAct
  pub at : slice_get acts s ≡ Some sending
  pub to : Pid
  pub value : ℕ
  pub sends : machine_act sending ≡ act.Send (node_actor sending) to value
  pub sender : Process
  pub is_sender : option_and_then (λ o. process o.after (node_actor sending)) (slice_get os s)
      ≡ Some sender
  pub token : Token
  pub stamped : sender.local.token ≡ Some token
  pub content : content_of (token_event kind.Send token (Some to) value) ≡ c

-- `because PID#J sent ..`, of a receive by act n with the content c: event j of q is a send with
-- that content, and came before act n. Messages that are alike in all that they report count as
-- one
pub record IsSentBefore (acts : List NodeAct) (os : List Outcome) (q : Pid) (j : ℕ)
    (c : MessageContent) (n : ℕ) : Type 0 where
  pub event : Event
  pub number : ℕ
  pub before : number < n
  pub reports : NodeReports acts os q j event number
  pub sends : event.kind ≡ kind.Send
  pub content : content_of event ≡ c

-- `nobody reported the send that PID#I follows`: a send with the content, before act n, reported
-- nothing
pub record IsSentUnreported (acts : List NodeAct) (os : List Outcome) (c : MessageContent)
    (n : ℕ) : Type 0 where
  pub number : ℕ
  pub before : number < n
  pub sends : SendsLike acts os c number
  pub unreported : IsSilent os number

-- STAMPS

-- p has reported k events once act x is over
abbrev pub IsFrom : List NodeAct → List Outcome → Pid → ℕ → ℕ → Type 0
IsFrom acts os p k x = k ≤ told_before acts os p (suc x)

-- `because PID#J received ..`: the token came with the message of event j of p
abbrev pub FollowsTake : List NodeAct → List Outcome → Pid → ℕ → Option Gift → Type 0
FollowsTake acts os p j o =
    (m : ℕ) × (o ≡ Some (Follows m)) × ((r : Event) × NodeReports acts os p j r m)

-- `begins this chain`: p made the token, or set its label
abbrev pub IsOwnBeginning : Option Gift → Type 0
IsOwnBeginning o = (m : ℕ) × (o ≡ Some (Begins m))

-- p made the token, or set its label, after event j of p
abbrev pub BeganAfter : List NodeAct → List Outcome → Pid → ℕ → Option Gift → Type 0
BeganAfter acts os p j o =
    (m : ℕ) × (o ≡ Some (Begins m)) × (j < told_before acts os p m)

-- `begins label .., or its process set that on its token; it had last received PID#J of label M`:
-- event j of p has label m, which isn't that of event e, and after it p made the token or set its
-- label
pub record IsChangedLabel (acts : List NodeAct) (os : List Outcome) (p : Pid) (e : Event)
    (j : ℕ) (m : Label) (o : Option Gift) : Type 0 where
  pub receive : Event
  pub at : slice_get (node_stream acts os p) j ≡ Some receive
  pub label : receive.label ≡ m
  pub other : ¬ (m ≡ e.label)
  pub begins : BeganAfter acts os p j o

-- act x of p took a token without a report, or put one back or ended a spawn
abbrev pub MovesUnseen : List Pid → List NodeAct → List Outcome → Pid → ℕ → Type 0
MovesUnseen pids acts os p x =
    ((act_gift pids acts os p x ≡ Some (Follows x)) × IsSilent os x)
    ⊎ ((a : NodeAct) × (slice_get acts x ≡ Some a) × (node_actor a ≡ p)
    × (moves_counters a ≡ true))

-- `since PID#K its process took a token whose receive wasn't reported, put one back or spawned`:
-- an act of p did, from its event k - 1 up to act n
pub record IsMoved (pids : List Pid) (acts : List NodeAct) (os : List Outcome) (p : Pid)
    (k n : ℕ) : Type 0 where
  pub number : ℕ
  pub before : number < n
  pub since : IsFrom acts os p k number
  pub moves : MovesUnseen pids acts os p number

-- ALL HOPS

module _ (pids : List Pid) (acts : List NodeAct) (os : List Outcome) (p : Pid) where
  -- the claim of a hop about event e of p, which act n reports
  abbrev pub HopClaims : Event → ℕ → NodeHop → Type 0
  HopClaims e n (hop.Sent q j) = IsSentBefore acts os q j (content_of e) n
  HopClaims e n hop.Unsent = IsSentUnreported acts os (content_of e) n
  HopClaims e n (hop.After j) = FollowsTake acts os p j (latest_gift pids acts os p n)
  HopClaims e n (hop.OtherLabel j m) = IsChangedLabel acts os p e j m (latest_gift pids acts os p n)
  HopClaims e n hop.Begins = IsOwnBeginning (latest_gift pids acts os p n)
  HopClaims e n (hop.Moved k) = IsMoved pids acts os p k n

  -- (1): from its event k - 1 up to act n, p reports each token that it takes
  abbrev pub ReportsTakes : ℕ → ℕ → Type 0
  ReportsTakes k n = (x y : ℕ) → x < n → IsFrom acts os p k x
      → act_gift pids acts os p x ≡ Some (Follows y) → IsReported os x

  -- (2): in that stretch p puts no token back, and ends no spawn
  abbrev pub KeepsCounters : ℕ → ℕ → Type 0
  KeepsCounters k n = (x : ℕ) (a : NodeAct) → x < n → IsFrom acts os p k x
      → slice_get acts x ≡ Some a → node_actor a ≡ p → moves_counters a ≡ false

  -- (3): in that stretch p makes no token, and sets no label
  abbrev pub BeginsNothing : ℕ → ℕ → Type 0
  BeginsNothing k n = (x y : ℕ) → x < n → IsFrom acts os p k x
      → act_gift pids acts os p x ≢ Some (Begins y)

  -- (4): each message with the content c that is sent before act n is reported by its sender
  abbrev pub ReportsLike : MessageContent → ℕ → Type 0
  ReportsLike c n = (x : ℕ) → x < n → SendsLike acts os c x → IsReported os x

  abbrev pub PremisesHold : ℕ → Event → ℕ → NodePremises → Type 0
  PremisesHold k e n premises.Nothing = Unit {0}
  PremisesHold k e n premises.KeptCounters = ReportsTakes k n × KeepsCounters k n
  PremisesHold k e n premises.KeptToken = (ReportsTakes k n × KeepsCounters k n) × BeginsNothing k n
  PremisesHold k e n premises.SendsReported = ReportsLike (content_of e) n

-- The hop's claim about the event e, event i of p, is true in every run of the node without a
-- reset that has the streams and in which the premises of the hop hold.
abbrev pub IsTrueOnNode : List Stream → Pid → ℕ → Event → NodeHop → Type 0
IsTrueOnNode streams p i e back = (pids : List Pid) (acts : List NodeAct) (os : List Outcome)
    → node_run pids acts ≡ Some os → NoNodeReset acts → AreReported streams acts os
    → (n : ℕ) → NodeReports acts os p i e n
    → PremisesHold pids acts os p (events_before back) e n (node_premises_of back)
    → HopClaims pids acts os p e n back
