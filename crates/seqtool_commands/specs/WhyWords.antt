-- The words of the output: a line for each event, and the premises. The claim of a sentence about
-- a run, and that it is true, is in `node_hops` (`Claims`).
use Rattle.std.specs.Prelude.{ℕ, ◌-◌, ◌==◌, min, Bool, true, false, List, [], ◌++◌, codes, decimal}
use Rattle.std.specs.Prelude.{if◌then◌else◌, take}
use Rattle.std.specs.Option.{unwrap_or}
use Rattle.st_core.specs.declared.types.Pid.{Pid}
use Rattle.st_core.specs.declared.types.Label.{Label}
use Rattle.st_core.specs.declared.types.Event.{Event}
use Rattle.st_core.specs.Run.{Stream}
use Rattle.st_text.specs.Spelling as spelled
use Rattle.st_text.specs.Spelling.{ended_line}
use Rattle.st_order.specs.declared.item.Item.TheVariants as item
use Rattle.st_chart.specs.Words.{place_words}
use Rattle.st_chart.specs.Chart.{item_word}
use Rattle.seqtool_commands.specs.LineNumbers.{line_number_of}
use Rattle.node_hops.specs.declared.hop.NodeHop.{NodeHop}
use Rattle.node_hops.specs.declared.hop.NodeHop.TheVariants as hop
use Rattle.node_hops.specs.declared.hop.NodePremises.{NodePremises}
use Rattle.node_hops.specs.declared.hop.NodePremises.TheVariants as premises
use Rattle.node_hops.specs.Hops.{node_hop_of, node_premises_of}
use Rattle.seqtool_commands.specs.declared.premise.Premise.{Premise}
use Rattle.seqtool_commands.specs.declared.premise.Premise.TheVariants as premise
use Rattle.seqtool_commands.specs.declared.question.Direction.{Direction}
use Rattle.seqtool_commands.specs.declared.question.Direction.TheVariants as direction

-- the line of the event at a place, 0 if there is none
abbrev pub line_number_at : List Stream → Pid → ℕ → ℕ
line_number_at streams p i = unwrap_or (line_number_of streams p i) 0

-- where an event is: its process, its index there, and its line of the text
abbrev pub located_words : List Stream → Pid → ℕ → List ℕ
located_words streams p i = place_words p i ++ codes ", line "
    ++ decimal (line_number_at streams p i)

-- the depth of an event in a tree: a number, and as many spaces, up to 16
abbrev pub depth_words : Direction → ℕ → List ℕ
depth_words direction.Back depth = []
depth_words direction.Forth depth =
    decimal depth ++ codes " " ++ take (min depth 16) (codes "                ")

-- the kind of an event, its serial and its value, as in a chart
abbrev pub what_words : Event → List ℕ
what_words e = item_word (item.Reported e.from 0) e.kind ++ codes " " ++ spelled.serial e.serial
    ++ codes " "
    ++ decimal e.value

-- the depth of an event, its place and its kind, serial and value
abbrev pub head_words : List Stream → Direction → ℕ → Pid → ℕ → Event → List ℕ
head_words streams way depth p i e = depth_words way depth ++ located_words streams p i
    ++ codes "  "
    ++ what_words e
    ++ codes " "

-- the words that a process begins the label, or sets it on its token
abbrev pub begins_label_words : Label → List ℕ
begins_label_words label =
    codes "begins label " ++ decimal label.0 ++ codes " here, or set it on its token; "

-- the words about the last receive before, which has another label
abbrev pub had_received_words : List Stream → Pid → ℕ → Label → List ℕ
had_received_words streams p j received = codes "it had last received "
    ++ located_words streams p j
    ++ codes " of label "
    ++ decimal received.0

-- the words about p's last event among its first k, if there is one
abbrev pub since_words : List Stream → Pid → ℕ → List ℕ
since_words streams p k =
    if k == 0 then [] else codes "since " ++ located_words streams p (k - 1) ++ codes ", "

-- the sentence about an event of p with the label, whose claim is in `HopClaims`
abbrev pub claim_words : List Stream → Pid → Label → NodeHop → List ℕ
claim_words streams p label (hop.Sent q j) = codes "after " ++ located_words streams q j
claim_words streams p label hop.Unsent = codes "its send wasn't reported"
claim_words streams p label (hop.After j) = codes "after " ++ located_words streams p j
claim_words streams p label (hop.OtherLabel j received) =
    begins_label_words label ++ had_received_words streams p j received
claim_words streams p label hop.Begins = codes "begins here"
claim_words streams p label (hop.Moved k) = since_words streams p k
    ++ codes "its process took a token whose receive wasn't reported, put one back or spawned"

-- the numbers of the premises that a sentence rests on
abbrev pub premise_words : NodePremises → List ℕ
premise_words premises.Nothing = []
premise_words premises.KeptCounters = codes " (1, 2)"
premise_words premises.KeptToken = codes " (1, 2, 3)"
premise_words premises.SendsReported = codes " (4)"

-- the sentence with its premises
abbrev pub hop_words : List Stream → Pid → Label → NodeHop → List ℕ
hop_words streams p label back =
    claim_words streams p label back ++ premise_words (node_premises_of back)

-- the line of event i of p at the depth
abbrev pub hop_line : List Stream → Direction → ℕ → Pid → ℕ → Event → List ℕ
hop_line streams way depth p i e = head_words streams way depth p i e
    ++ ended_line (hop_words streams p e.label (node_hop_of streams p i e))

-- the line about all runs
abbrev pub runs_words : List ℕ
runs_words =
    codes "this holds in each run of a standard node without a reset that reports the trace"

-- the line of a premise
abbrev pub premise_text : Premise → List ℕ
premise_text premise.ReportsTakes =
    codes "(1) if in between, or before a beginning, its process took no token whose receive "
    ++ codes "wasn't reported"
premise_text premise.KeepsCounters = codes
    "(2) if there it put no token back, and spawned no process"
premise_text premise.BeginsNothing = codes
    "(3) if there it made no token, and set no label"
premise_text premise.ReportsLike = codes
    "(4) if each send of such a message was reported"

-- whether a premise is among those of a hop
abbrev pub is_part_of : Premise → NodePremises → Bool
is_part_of x premises.Nothing = false
is_part_of x premises.KeptCounters = elim x [
  | premise.ReportsTakes ↦ true
  | premise.KeepsCounters ↦ true
  | premise.BeginsNothing ↦ false
  | premise.ReportsLike ↦ false
]
is_part_of x premises.KeptToken = elim x [
  | premise.ReportsTakes ↦ true
  | premise.KeepsCounters ↦ true
  | premise.BeginsNothing ↦ true
  | premise.ReportsLike ↦ false
]
is_part_of x premises.SendsReported = elim x [
  | premise.ReportsTakes ↦ false
  | premise.KeepsCounters ↦ false
  | premise.BeginsNothing ↦ false
  | premise.ReportsLike ↦ true
]

-- the line of events without an order
abbrev pub no_order_words : List ℕ
no_order_words =
    codes "no order of the events has each receive after its send"
