-- The result of `why` on bytes: the way back from an event of the streams that they spell, or the
-- tree of what follows it, a line for each event, with the premises of its hops, or why there is
-- none. The acts in the input are ignored.
use Rattle.std.specs.Prelude.{◌≡◌, ℕ, Bool, false, List, [], ◌∷◌, ◌++◌, Option, Some, None, IsSome}
use Rattle.std.specs.Prelude.{codes, if◌then◌else◌}
use Rattle.std.specs.List.{flat_map, list_any}
use Rattle.st_core.specs.declared.types.Act.{Act}
use Rattle.st_core.specs.declared.types.Event.{Event}
use Rattle.st_core.specs.Run.{Stream}
use Rattle.st_text.specs.declared.fault.ReadFault.{ReadFault}
use Rattle.st_text.specs.Limits.{greater}
use Rattle.st_text.specs.Spelling.{ended_line}
use Rattle.st_text.specs.Fault.{fault_within}
use Rattle.st_pair.specs.Places.{event_at}
use Rattle.st_chart.specs.Words.{place_words}
use Rattle.st_commands.specs.Output.{Output, refused}
use Rattle.st_commands.specs.Checked.{Spells}
use Rattle.node_streams.specs.Order.{HaveOrder}
use Rattle.node_hops.specs.declared.node.Node.{Node}
use Rattle.node_hops.specs.Hops.{node_hop_of, node_premises_of}
use Rattle.node_hops.specs.Way.{way}
use Rattle.node_hops.specs.Tree.{tree}
use Rattle.seqtool_commands.specs.declared.premise.Premise.{Premise}
use Rattle.seqtool_commands.specs.declared.premise.Premise.TheVariants as premise
use Rattle.seqtool_commands.specs.declared.question.Question.{Question}
use Rattle.seqtool_commands.specs.declared.question.Direction.TheVariants as direction
use Rattle.seqtool_commands.specs.WhyWords.{hop_line, is_part_of, no_order_words, premise_text}
use Rattle.seqtool_commands.specs.WhyWords.{runs_words}

-- the event that is asked about, if there is one
abbrev pub event_asked : List Stream → Question → Option Event
event_asked streams q = event_at streams q.place.0 q.place.1

-- the events of the way or the tree
abbrev pub nodes_from : List Stream → Question → List Node
nodes_from streams q = elim q.direction [
  | direction.Back ↦ way streams q.reach.across q.reach.most 0 (Some q.place)
  | direction.Forth ↦ tree streams q.reach.across q.reach.most 0 q.place
]

-- the line of the event at a place, if there is one
abbrev pub node_line : List Stream → Question → Node → List ℕ
node_line streams q x = elim (event_at streams x.place.0 x.place.1) [
  | None ↦ []
  | Some e ↦ hop_line streams q.direction x.depth x.place.0 x.place.1 e
]

-- whether the hop of the event at a node rests on the premise
abbrev pub rests_on : List Stream → Premise → Node → Bool
rests_on streams premise x = elim (event_at streams x.place.0 x.place.1) [
  | None ↦ false
  | Some e ↦
      is_part_of premise (node_premises_of (node_hop_of streams x.place.0 x.place.1 e))
]

-- the line of a premise, if a hop rests on it
abbrev pub premise_line : List Stream → List Node → Premise → List ℕ
premise_line streams nodes premise =
    if list_any (rests_on streams premise) nodes then ended_line (premise_text premise) else []

abbrev pub all_premises : List Premise
all_premises = premise.ReportsTakes ∷ premise.KeepsCounters ∷ premise.BeginsNothing
    ∷ premise.ReportsLike
    ∷ []

-- the lines about all runs and about the premises of the hops
abbrev pub last_lines : List Stream → List Node → List ℕ
last_lines streams nodes =
    ended_line runs_words ++ flat_map (premise_line streams nodes) all_premises

-- the lines of the events, and then the last lines
abbrev pub answer_lines : List Stream → Question → List Node → List ℕ
answer_lines streams q nodes = flat_map (node_line streams q) nodes ++ last_lines streams nodes

-- the output for an event that is there
abbrev pub found : List Stream → Question → Output
found streams q = record { text = answer_lines streams q (nodes_from streams q); status = 0 }

-- the output if there is no such event
abbrev pub no_event : Question → Output
no_event q = record {
  text = ended_line (codes "no event " ++ place_words q.place.0 q.place.1);
  status = 1;
}

-- the output if no order of the events has each receive after its send: hops can then go in a
-- circle
abbrev pub no_order : Output
no_order = record { text = ended_line no_order_words; status = 1 }

-- the bytes spell the streams, with acts or without
pub record AreSpelled (bytes : List ℕ) (streams : List Stream) : Type 0 where
  pub given : Option (List Act)
  pub spelled : Spells greater bytes streams given

pub data IsWhy (q : Question) : List ℕ → Output → Type 0 where
  Found : (bytes : List ℕ) (streams : List Stream) → AreSpelled bytes streams
      → IsSome (event_asked streams q) → HaveOrder streams
      → IsWhy q bytes (found streams q)
  Unordered : (bytes : List ℕ) (streams : List Stream) → AreSpelled bytes streams
      → IsSome (event_asked streams q) → ¬ (HaveOrder streams)
      → IsWhy q bytes no_order
  Lacking : (bytes : List ℕ) (streams : List Stream) → AreSpelled bytes streams
      → event_asked streams q ≡ None
      → IsWhy q bytes (no_event q)
  Faulty : (bytes : List ℕ) (f : ReadFault) → fault_within greater bytes ≡ Some f
      → IsWhy q bytes (refused f)
