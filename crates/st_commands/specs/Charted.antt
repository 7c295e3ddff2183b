-- The output of `chart`: the chart of one label in the streams that the bytes spell, or why there
-- is none. The acts in the input are ignored.
use Rattle.std.specs.Prelude.{◌≡◌, ℕ, true, false, List, ◌++◌, Option, Some, None, codes}
use Rattle.std.specs.List.{list_any}
use Rattle.st_core.specs.declared.types.Label.{Label}
use Rattle.st_core.specs.declared.types.Act.{Act}
use Rattle.st_core.specs.Run.{Stream}
use Rattle.st_pair.specs.declared.answer.PairFault.{PairFault}
use Rattle.st_pair.specs.Pairing.{refusal}
use Rattle.st_order.specs.declared.item.Item.{Item}
use Rattle.st_order.specs.Order.{IsOrder}
use Rattle.st_order.specs.Labels.{item_has_label}
use Rattle.st_audit.specs.declared.finding.Finding.{Finding}
use Rattle.st_audit.specs.Findings.{unfit_by}
use Rattle.st_chart.specs.Chart.{chart_text}
use Rattle.st_text.specs.declared.fault.ReadFault.{ReadFault}
use Rattle.st_text.specs.Spelling as spelled
use Rattle.st_text.specs.Spelling.{ended_line}
use Rattle.st_text.specs.declared.limits.Limits.{Limits}
use Rattle.st_text.specs.Fault.{fault_within}
use Rattle.st_commands.specs.Output.{Output, refused}
use Rattle.st_commands.specs.Checked.{Spells}
use Rattle.st_commands.specs.Audited.{report_output}

-- the chart of the items that have the label
abbrev pub drawn : List Stream → List Item → Label → Output
drawn streams items label = record { text = chart_text streams items label; status = 0 }

-- the output if no item has the label
abbrev pub no_label : Label → Output
no_label label = record { text = ended_line (codes "no label " ++ spelled.label label); status = 1 }

-- the bytes spell streams that pairing accepts, and the items are the order of the streams
pub record HasOrder (limits : Limits) (bytes : List ℕ) (streams : List Stream)
    (items : List Item) : Type 0 where
  pub given : Option (List Act)
  pub spelled : Spells limits bytes streams given
  pub accepted : refusal streams ≡ None
  pub order : IsOrder streams items

-- the bytes spell streams that pairing refuses, and the finding is its reason
pub record HasPairFault (limits : Limits) (bytes : List ℕ) (streams : List Stream)
    (found : Finding) : Type 0 where
  pub given : Option (List Act)
  pub spelled : Spells limits bytes streams given
  pub fault : PairFault
  pub refused : refusal streams ≡ Some fault
  pub found_by : unfit_by fault ≡ Some found

-- the output that `chart` has for bytes
pub data IsCharted (limits : Limits) (label : Label) : List ℕ → Output → Type 0 where
  Drawn : (bytes : List ℕ) (streams : List Stream) (items : List Item)
      → HasOrder limits bytes streams items
      → list_any (item_has_label streams label) items ≡ true
      → IsCharted limits label bytes (drawn streams items label)
  Unlabelled : (bytes : List ℕ) (streams : List Stream) (items : List Item)
      → HasOrder limits bytes streams items
      → list_any (item_has_label streams label) items ≡ false
      → IsCharted limits label bytes (no_label label)
  Unpaired : (bytes : List ℕ) (streams : List Stream) (found : Finding)
      → HasPairFault limits bytes streams found
      → IsCharted limits label bytes (report_output streams found)
  Faulty : (bytes : List ℕ) (f : ReadFault) → fault_within limits bytes ≡ Some f
      → IsCharted limits label bytes (refused f)
