-- The output of `audit`: the report of what it finds of the streams that the bytes spell, or why
-- the bytes spell none. The acts in the input are ignored.
use Rattle.std.specs.Prelude.{◌≡◌, ℕ, List, Option, Some}
use Rattle.std.specs.Option.{ForSome}
use Rattle.st_core.specs.declared.types.Act.{Act}
use Rattle.st_core.specs.Run.{Stream}
use Rattle.st_audit.specs.declared.finding.Finding.{Finding}
use Rattle.st_audit.specs.declared.finding.Finding.TheVariants as finding
use Rattle.st_audit.specs.Construction.{IsAudit}
use Rattle.st_audit.specs.Findings.{IsFinding, HandsOn, fault_of}
use Rattle.st_pair.specs.Final.{RulesOut}
use Rattle.st_chart.specs.Report.{report_text}
use Rattle.st_text.specs.declared.fault.ReadFault.{ReadFault}
use Rattle.st_text.specs.declared.limits.Limits.{Limits}
use Rattle.st_text.specs.Fault.{fault_within}
use Rattle.st_commands.specs.Output.{Output, refused}
use Rattle.st_commands.specs.Checked.{top, Spells}

abbrev pub finding_status : Finding → ℕ
finding_status (finding.Fits acts pairs) = 0
finding_status (finding.Unfit p i r) = 1

-- the output that reports a finding on streams
abbrev pub report_output : List Stream → Finding → Output
report_output streams found =
    record { text = report_text streams found; status = finding_status found }

-- The bytes spell streams, and the finding is true: acts that the checker accepts, or an event of
-- the streams and a reason that holds at it. If pairing refuses the streams, the finding is its
-- reason, which is final. The finding is exactly that of the construction.
pub record HasFinding (limits : Limits) (bytes : List ℕ) (streams : List Stream)
    (found : Finding) : Type 0 where
  pub given : Option (List Act)
  pub spelled : Spells limits bytes streams given
  pub finding : IsFinding top streams found
  pub handed_on : HandsOn streams found
  pub final : ForSome (fault_of found) (RulesOut streams)
  pub exact : IsAudit top streams found

-- the output that `audit` has for bytes
pub data IsAudited (limits : Limits) : List ℕ → Output → Type 0 where
  Found : (bytes : List ℕ) (streams : List Stream) (found : Finding)
      → HasFinding limits bytes streams found
      → IsAudited limits bytes (report_output streams found)
  Faulty : (bytes : List ℕ) (f : ReadFault) → fault_within limits bytes ≡ Some f
      → IsAudited limits bytes (refused f)
