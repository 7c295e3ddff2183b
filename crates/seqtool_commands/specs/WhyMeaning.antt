-- The meaning of a yes and a no of `why`, each as one record of plain facts about the standard
-- node's machine.
use Rattle.std.specs.Prelude.{◌≡◌, ℕ, List, ◌++◌, Option, Some, None, IsSome, codes}
use Rattle.st_core.specs.declared.types.Pid.{Pid}
use Rattle.st_core.specs.declared.types.Act.{Act}
use Rattle.st_core.specs.declared.types.Event.{Event}
use Rattle.st_core.specs.Run.{Stream}
use Rattle.st_core.specs.Step.{Outcome}
use Rattle.st_text.specs.Limits.{greater}
use Rattle.st_text.specs.Spelling.{ended_line}
use Rattle.st_pair.specs.Places.{event_at}
use Rattle.st_chart.specs.Words.{place_words}
use Rattle.st_commands.specs.Output.{Output}
use Rattle.st_commands.specs.Checked.{Spells}
use Rattle.node_machine.specs.Node.{NodeAct}
use Rattle.node_streams.specs.Order.{HaveOrder}
use Rattle.node_streams.specs.Runs.{AreStreamsOf}
use Rattle.node_hops.specs.Claims.{IsTrueOnNode}
use Rattle.node_hops.specs.Hops.{node_hop_of}
use Rattle.seqtool_commands.specs.declared.question.Question.{Question}
use Rattle.seqtool_commands.specs.Why.{event_asked, answer_lines, nodes_from}
use Rattle.seqtool_commands.specs.WhyWords.{no_order_words}

-- the way back from an event, or the tree of what follows it: status 0
pub record MeansTold (q : Question) (bytes : List ℕ) (out : Output) : Type 0 where
  pub streams : List Stream
  pub given : Option (List Act)
  -- the bytes spell streams, and acts or none, within the reader's limits
  pub spelled : Spells greater bytes streams given
  -- the event that is asked about is here
  pub there : IsSome (event_asked streams q)
  -- all events have an order in which each receive comes after its send, so hops never go in a
  -- circle
  pub ordered : HaveOrder streams
  -- the claim of each hop is true in every run of the node without a reset that has the streams
  -- and in which the hop's premises hold
  pub claims : (p : Pid) (i : ℕ) (e : Event) → event_at streams p i ≡ Some e
      → IsTrueOnNode streams p i e (node_hop_of streams p i e)
  -- the text is a line for each event of the way or the tree, with its hop, and then the premises
  pub text : out.text ≡ answer_lines streams q (nodes_from streams q)

-- no such event: status 1
pub record MeansNoEvent (q : Question) (bytes : List ℕ) (out : Output) : Type 0 where
  pub streams : List Stream
  pub given : Option (List Act)
  -- the bytes spell streams, and acts or none, within the reader's limits
  pub spelled : Spells greater bytes streams given
  -- the event that is asked about isn't among their events
  pub missing : event_asked streams q ≡ None
  -- the text says that there is no such event
  pub text : out.text ≡ ended_line (codes "no event " ++ place_words q.place.0 q.place.1)

-- no order of the events: status 1
pub record MeansNoOrder (q : Question) (bytes : List ℕ) (out : Output) : Type 0 where
  pub streams : List Stream
  pub given : Option (List Act)
  -- the bytes spell streams, and acts or none, within the reader's limits
  pub spelled : Spells greater bytes streams given
  -- the event that is asked about is here
  pub there : IsSome (event_asked streams q)
  -- no order of the events has each receive after its send
  pub unordered : ¬ (HaveOrder streams)
  -- no run of the node has the streams, if each token that reaches a listed process was sent by a
  -- listed one, which reported the send
  pub none : (pids : List Pid) (acts : List NodeAct) (os : List Outcome)
      → ¬ (AreStreamsOf streams pids acts os)
  -- the text says that there is no order
  pub text : out.text ≡ ended_line no_order_words

-- no such event, or no order: status 1
pub data MeansUntold (q : Question) (bytes : List ℕ) (out : Output) : Type 0 where
  NoEvent : MeansNoEvent q bytes out → MeansUntold q bytes out
  NoOrder : MeansNoOrder q bytes out → MeansUntold q bytes out
