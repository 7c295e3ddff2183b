-- Bytes have at most one output of `audit`: they are the text of one bundle or have one fault, and
-- streams have one finding. The finding on streams that are plain or fully shown is a certificate.
use Rattle.std.proofs.Common.{◌≡◌, ◌⊎◌, ℕ, List, Option, refl, sym, ap, subst, ◌∙◌}
use Rattle.st_core.specs.declared.types.Act.{Act}
use Rattle.st_core.specs.Run.{Stream}
use Rattle.st_core.specs.Streams.{IsStreams}
use Rattle.st_plan.specs.Full.{IsFullyShown}
use Rattle.st_plan.specs.Plain.{IsPlain}
use Rattle.st_audit.specs.declared.finding.Finding.{Finding}
use Rattle.st_audit.specs.declared.finding.Finding.TheVariants as finding
use Rattle.st_audit.specs.Construction.{IsAudit}
use Rattle.st_audit.specs.Findings.{HasCertificate}
use Rattle.st_text.specs.declared.limits.Limits.{Limits}
use Rattle.st_commands.specs.Output.{Output, refused}
use Rattle.st_commands.specs.Checked.{top, Spells}
use Rattle.st_commands.specs.Audited.{Faulty, Found, HasFinding, IsAudited, finding_status}
use Rattle.st_commands.specs.Audited.{report_output}
use Rattle.st_commands.specs.Laws.{CertainTracesFit, HasOneOutput}
use Rattle.st_commands.proofs.ChartOutputs.{same_streams}
use Rattle.st_commands.proofs.Outputs.{fault_apart, one_fault}

-- streams have one finding
abbrev OneFinding : Type 0
OneFinding =
    (top : ℕ) (streams : List Stream) (one other : Finding) → IsAudit top streams one
    → IsAudit top streams other → one ≡ other

module _ (one_finding : OneFinding) (limits : Limits) (bytes : List ℕ) where
  one_report : (ss ts : List Stream) (one other : Finding) → HasFinding limits bytes ss one
      → HasFinding limits bytes ts other → report_output ss one ≡ report_output ts other
  one_report ss ts one other h k =
      let listed : ss ≡ ts = same_streams limits bytes ss ts h.given k.given h.spelled k.spelled in
      let moved = subst (λ (s : List Stream). IsAudit top s other) (sym listed) k.exact in
      let same : one ≡ other = one_finding top ss one other h.exact moved in
      ap (λ s. report_output s one) listed ∙ ap (report_output ts) same

pub one_audit : OneFinding → (limits : Limits) → HasOneOutput (IsAudited limits)
one_audit law limits bytes one other (Found x ss found h) (Found y ts more k) =
    one_report law limits x ss ts found more h k
one_audit law limits bytes one other (Found x ss found h) (Faulty y f bad) =
    fault_apart limits x ss h.given f h.spelled bad _
one_audit law limits bytes one other (Faulty x f bad) (Found y ts found k) =
    fault_apart limits x ts k.given f k.spelled bad _
one_audit law limits bytes one other (Faulty x f bad) (Faulty y g worse) =
    ap refused (one_fault limits x f g bad worse)

-- ---- a certificate

-- plain streams, and those of a run that reported everything, have a certificate
abbrev CertainStreamsFit : Type 0
CertainStreamsFit =
    (top : ℕ) (streams : List Stream) (found : Finding) → IsStreams streams
    → IsPlain top streams ⊎ IsFullyShown top streams → IsAudit top streams found
    → HasCertificate found

certified : (found : Finding) → HasCertificate found → finding_status found ≡ 0
certified (finding.Fits acts pairs) h = refl
certified (finding.Unfit p i r) h = absurd h

pub certain_traces_fit : CertainStreamsFit → CertainTracesFit
certain_traces_fit law limits bytes streams given out spelled certain (Found b ss found h) =
    let listed = same_streams limits b streams ss given h.given spelled h.spelled in
    let exact = subst (λ (s : List Stream). IsAudit top s found) (sym listed) h.exact in
    certified found (law top streams found spelled.text.bundle.streams certain exact)
certain_traces_fit law limits bytes streams given out spelled certain (Faulty b f bad) =
    fault_apart limits b streams given f spelled bad _
