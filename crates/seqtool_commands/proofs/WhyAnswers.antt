-- Each node has the line of its event, a premise on which no hop rests has no line, and the output
-- isn't empty, since the last lines aren't.
use Rattle.std.proofs.Common.{◌≡◌, ℕ, ◌<◌, false, cond, List, [], length, Option, Some, None, ap}
use Rattle.std.proofs.Common.{arith}
use Rattle.std.proofs.lemmas.List.{length-append}
use Rattle.std.specs.List.{flat_map, list_any}
use Rattle.st_core.specs.declared.types.Event.{Event}
use Rattle.st_core.specs.Run.{Stream}
use Rattle.st_pair.specs.Places.{event_at}
use Rattle.st_text.specs.Spelling.{ended_line}
use Rattle.st_text.proofs.ForCallers.{line_some}
use Rattle.node_hops.specs.declared.node.Node.{Node}
use Rattle.seqtool_commands.specs.declared.premise.Premise.{Premise}
use Rattle.seqtool_commands.specs.declared.question.Question.{Question}
use Rattle.seqtool_commands.specs.Why.{all_premises, answer_lines, last_lines, node_line}
use Rattle.seqtool_commands.specs.Why.{premise_line, rests_on}
use Rattle.seqtool_commands.specs.WhyWords.{hop_line, premise_text, runs_words}

module _ (streams : List Stream) (q : Question) (x : Node) where
  abbrev line_by : Option Event → List ℕ
  line_by o = elim o [
    | None ↦ []
    | Some e ↦ hop_line streams q.direction x.depth x.place.0 x.place.1 e
  ]

  pub line_of : (o : Option Event) → event_at streams x.place.0 x.place.1 ≡ o
      → node_line streams q x ≡ line_by o
  line_of o is = ap line_by is

-- a premise on which no hop rests has no line
pub no_line : (streams : List Stream) (nodes : List Node) (x : Premise)
    → list_any (rests_on streams x) nodes ≡ false → premise_line streams nodes x ≡ []
no_line streams nodes x none =
    ap (λ b. (let line : List ℕ = cond b (ended_line (premise_text x)) [] in line)) none

-- the output isn't empty
pub answer_some : (streams : List Stream) (q : Question) (nodes : List Node)
    → 0 < length (answer_lines streams q nodes)
answer_some streams q nodes =
    let some = line_some runs_words in
    let last = length-append (ended_line runs_words)
    (flat_map (premise_line streams nodes) all_premises) in
    let both = length-append (flat_map (node_line streams q) nodes) (last_lines streams nodes) in
    omega arith
