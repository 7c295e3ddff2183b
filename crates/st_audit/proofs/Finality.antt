-- A finding by a reason of pairing is final, since that reason refuses the streams.
use Rattle.std.proofs.Common.{◌≡◌, ℕ, List, Some, ◌∙◌}
use Rattle.std.specs.Option.{ForSome}
use Rattle.std.proofs.lemmas.Option.{none-some}
use Rattle.st_core.specs.Run.{Stream}
use Rattle.st_pair.specs.Pairing.{refusal}
use Rattle.st_pair.specs.Final.{RulesOut}
use Rattle.st_pair.proofs.ForCallers.{refusal_rules_out}
use Rattle.st_audit.specs.declared.finding.Finding.{Finding}
use Rattle.st_audit.specs.declared.finding.Finding.TheVariants as finding
use Rattle.st_audit.specs.declared.finding.Reason.TheVariants as reason
use Rattle.st_audit.specs.Findings.{fault_of, IsFinding}

-- a finding with a reason of pairing says why pairing refuses the streams
refused_by : (top : ℕ) (streams : List Stream) (found : Finding) → IsFinding top streams found
    → ForSome (fault_of found) (λ f. refusal streams ≡ Some f)
refused_by top streams (finding.Unfit p i reason.Uncaused) is f e = absurd (none-some f e)
refused_by top streams (finding.Unfit p i reason.TooWide) is f e = absurd (none-some f e)
refused_by top streams (finding.Unfit p i (reason.NotReplayed acts v)) is f e =
    absurd (none-some f e)
refused_by top streams (finding.Fits acts pairs) is f e = absurd (none-some f e)
refused_by top streams found is f e = is.1 ∙ e

-- a finding with a reason of pairing rules out the acts that the reason rules out
pub finding_rules_out : (top : ℕ) (streams : List Stream) (found : Finding)
    → IsFinding top streams found
    → ForSome (fault_of found) (RulesOut streams)
finding_rules_out top streams found is f e =
    refusal_rules_out streams f (refused_by top streams found is f e)
