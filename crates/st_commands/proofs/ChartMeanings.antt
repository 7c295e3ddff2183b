-- Status 0 belongs to a chart alone. Status 1 belongs to a label that no item has, or to a reason
-- of pairing, which rules out all acts without a reset.
use Rattle.std.proofs.Common.{◌≡◌, ℕ, List, Option, Some, refl, sym, ap, subst, arith}
use Rattle.std.specs.Prelude.{IsSome, MatchOption}
use Rattle.std.proofs.lemmas.Option.{same_Some}
use Rattle.st_core.specs.declared.types.Pid.{Pid}
use Rattle.st_core.specs.declared.types.Label.{Label}
use Rattle.st_core.specs.declared.types.Act.{Act}
use Rattle.st_core.specs.Run.{Stream}
use Rattle.st_pair.specs.declared.answer.PairFault.{PairFault}
use Rattle.st_pair.specs.declared.answer.PairFault.TheVariants as pairing
use Rattle.st_pair.specs.Pairing.{refusal}
use Rattle.st_pair.proofs.ForCallers.{refused_never_shown}
use Rattle.st_audit.specs.declared.finding.Finding.{Finding}
use Rattle.st_audit.specs.declared.finding.Finding.TheVariants as finding
use Rattle.st_audit.specs.declared.finding.Reason.{Reason}
use Rattle.st_audit.specs.declared.finding.Reason.TheVariants as reason
use Rattle.st_audit.specs.Findings.{IsReason, fault_of, unfit_by}
use Rattle.st_text.specs.declared.limits.Limits.{Limits}
use Rattle.st_commands.specs.Output.{Output}
use Rattle.st_commands.specs.Checked.{top, Spells}
use Rattle.st_commands.specs.Audited.{finding_status, report_output}
use Rattle.st_commands.specs.Charted.{IsCharted}
use Rattle.st_commands.specs.Charted as charted
use Rattle.st_commands.specs.Meaning.{MeansCharted, MeansNoChart, MeansUnpaired, Unlabelled}
use Rattle.st_commands.specs.Meaning.{Unpaired}
use Rattle.st_commands.proofs.Meanings.{fault_status_high}

-- ---- a reason of pairing

pub unfit_status : (f : PairFault) (found : Finding) → unfit_by f ≡ Some found
    → finding_status found ≡ 1
unfit_status pairing.Memory found by = absurd (cc)
unfit_status (pairing.PrevNotBefore p i) found by = ap finding_status (sym (same_Some _ found by))
unfit_status (pairing.NotRising p i j) found by = ap finding_status (sym (same_Some _ found by))
unfit_status (pairing.Repeated p i q j) found by = ap finding_status (sym (same_Some _ found by))
unfit_status (pairing.Mismatch p i q j) found by = ap finding_status (sym (same_Some _ found by))

module _ (limits : Limits) (bytes : List ℕ) (streams : List Stream) (given : Option (List Act))
    (spelled : Spells limits bytes streams given) where
  holds_at : (f : PairFault) → refusal streams ≡ Some f → (p : Pid) (i : ℕ) (r : Reason)
      → IsSome (fault_of (finding.Unfit p i r)) → IsReason top streams p i r
      → MeansUnpaired limits bytes (report_output streams (finding.Unfit p i r))
  holds_at f is p i r unpaired holds = record {
    streams = streams;
    given = given;
    pid = p;
    index = i;
    reason = r;
    spelled = spelled;
    unpaired = unpaired;
    ruled_out = refused_never_shown streams f is top;
    holds = holds;
    text = refl;
  }

  by_reason : (f : PairFault) → refusal streams ≡ Some f → MatchOption (unfit_by f) (Unit {0})
      (λ found. MeansUnpaired limits bytes (report_output streams found))
  by_reason pairing.Memory is = tt
  by_reason (pairing.PrevNotBefore p i) is =
      holds_at (pairing.PrevNotBefore p i) is p i reason.PrevNotBefore refl is
  by_reason (pairing.NotRising p i j) is =
      holds_at (pairing.NotRising p i j) is p i (reason.NotRising j) refl is
  by_reason (pairing.Repeated p i q j) is =
      holds_at (pairing.Repeated p i q j) is p i (reason.Repeated q j) refl is
  by_reason (pairing.Mismatch p i q j) is =
      holds_at (pairing.Mismatch p i q j) is p i (reason.Mismatch q j) refl is

  pub unpaired_means : (f : PairFault) (found : Finding) → refusal streams ≡ Some f
      → unfit_by f ≡ Some found → MeansUnpaired limits bytes (report_output streams found)
  unpaired_means f found is by = subst (λ (o : Option Finding). MatchOption o (Unit {0})
      (λ found. MeansUnpaired limits bytes (report_output streams found))) by (by_reason f is)

-- ---- what a status means

module _ (limits : Limits) (label : Label) where
  pub charted_means : (bytes : List ℕ) (out : Output) → IsCharted limits label bytes out
      → out.status ≡ 0 → MeansCharted limits label bytes out
  charted_means bytes out (charted.Drawn b streams items h some) e =
      record {
        streams = streams;
        given = h.given;
        items = items;
        spelled = h.spelled;
        accepted = h.accepted;
        order = h.order;
        labelled = some;
        text = refl;
      }
  charted_means bytes out (charted.Unlabelled b streams items h none) e = absurd (omega (arith, e))
  charted_means bytes out (charted.Unpaired b streams found h) e =
      absurd (omega (arith, e, unfit_status h.fault found h.found_by))
  charted_means bytes out (charted.Faulty b f is) e =
      let high = fault_status_high f in absurd (omega arith)

  pub no_chart_means : (bytes : List ℕ) (out : Output) → IsCharted limits label bytes out
      → out.status ≡ 1 → MeansNoChart limits label bytes out
  no_chart_means bytes out (charted.Drawn b streams items h some) e = absurd (omega (arith, e))
  no_chart_means bytes out (charted.Unlabelled b streams items h none) e =
      Unlabelled (record {
        streams = streams;
        given = h.given;
        items = items;
        spelled = h.spelled;
        accepted = h.accepted;
        order = h.order;
        unlabelled = none;
        text = refl;
      })
  no_chart_means bytes out (charted.Unpaired b streams found h) e =
      Unpaired (unpaired_means limits b streams h.given h.spelled h.fault found h.refused
      h.found_by)
  no_chart_means bytes out (charted.Faulty b f is) e =
      let high = fault_status_high f in absurd (omega arith)
