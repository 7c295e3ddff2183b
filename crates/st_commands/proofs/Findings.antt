-- Status 0 of an audit belongs to a certificate alone, and status 1 to an event and a reason.
use Rattle.std.proofs.Common.{◌≡◌, ℕ, List, refl, arith}
use Rattle.st_core.specs.Run.{Stream}
use Rattle.st_core.specs.Verdict.{Yes}
use Rattle.st_audit.specs.declared.finding.Finding.{Finding}
use Rattle.st_audit.specs.declared.finding.Finding.TheVariants as finding
use Rattle.st_text.specs.declared.limits.Limits.{Limits}
use Rattle.st_commands.specs.Output.{judged}
use Rattle.st_commands.specs.Checked.{Judged}
use Rattle.st_commands.specs.Audited.{HasFinding, Found, Faulty, report_output, finding_status}
use Rattle.st_commands.specs.Meaning.{MeansFits, MeansUnfit}
use Rattle.st_commands.specs.Laws.{FitsMeans, UnfitMeans, CertificateIsYes, certificate}
use Rattle.st_commands.proofs.Meanings.{fault_status_high}
use Rattle.st_commands.proofs.Outputs.{one_check}
use Rattle.st_commands.proofs.OwedOutputs.{judgement}

-- ---- what is found

found_fits : (limits : Limits) (bytes : List ℕ) (streams : List Stream) (found : Finding)
    → HasFinding limits bytes streams found
    → finding_status found ≡ 0 → MeansFits limits bytes (report_output streams found)
found_fits limits bytes streams (finding.Unfit p i r) h e = absurd (omega (arith, e))
found_fits limits bytes streams (finding.Fits acts pairs) h e =
    let yes = h.finding in
    record {
      streams = streams;
      given = h.given;
      acts = acts;
      outcomes = yes.0;
      spelled = h.spelled;
      runs = yes.1;
      reports = yes.2;
      text = refl;
    }

found_unfit : (limits : Limits) (bytes : List ℕ) (streams : List Stream) (found : Finding)
    → HasFinding limits bytes streams found
    → finding_status found ≡ 1 → MeansUnfit limits bytes (report_output streams found)
found_unfit limits bytes streams (finding.Fits acts pairs) h e = absurd (omega (arith, e))
found_unfit limits bytes streams (finding.Unfit p i r) h e =
    record {
      streams = streams;
      given = h.given;
      pid = p;
      index = i;
      reason = r;
      spelled = h.spelled;
      there = h.finding.0;
      holds = h.finding.1;
      final = h.final;
      text = refl;
    }

pub fits_means : FitsMeans
fits_means limits bytes out (Found b streams found h) e = found_fits limits b streams found h e
fits_means limits bytes out (Faulty b f is) e =
    let high = fault_status_high f in absurd (omega arith)

pub unfit_means : UnfitMeans
unfit_means limits bytes out (Found b streams found h) e = found_unfit limits b streams found h e
unfit_means limits bytes out (Faulty b f is) e =
    let high = fault_status_high f in absurd (omega arith)

-- ---- the check of a certificate

pub certificate_is_yes : CertificateIsYes
certificate_is_yes limits streams acts pairs accepted spelled out is =
    let bytes = certificate streams acts in
    one_check limits bytes out (judged (Yes pairs)) is
    (Judged bytes (Yes pairs) (judgement limits bytes streams acts (Yes pairs) spelled accepted))
