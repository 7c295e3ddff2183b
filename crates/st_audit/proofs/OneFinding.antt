-- Streams have one finding, since acts have one verdict, and a finding consists of acts, a place
-- and a verdict.
use Rattle.std.proofs.Common.{◌≡◌, ℕ, List, [], Option, Some, None, sym, ◌∙◌, ap, subst, refl}
use Rattle.std.proofs.lemmas.Option.{same_Some}
use Rattle.st_core.specs.declared.types.Pid.{Pid}
use Rattle.st_core.specs.declared.types.Act.{Act}
use Rattle.st_core.specs.Run.{Stream}
use Rattle.st_core.specs.Verdict as verdicts
use Rattle.st_core.proofs.ForCallers.{one_verdict}
use Rattle.st_check.specs.Answers.{verdict_of}
use Rattle.st_check.specs.declared.verdict.Verdict.{Verdict}
use Rattle.st_check.specs.declared.verdict.Verdict.TheVariants as told
use Rattle.st_pair.specs.declared.answer.PairFault.{PairFault}
use Rattle.st_pair.specs.Pairing.{refusal}
use Rattle.st_order.specs.Order.{order}
use Rattle.st_audit.specs.declared.finding.Reason.TheVariants as reason
use Rattle.st_audit.specs.declared.finding.Finding.{Finding}
use Rattle.st_audit.specs.declared.finding.Finding.TheVariants as finding
use Rattle.st_audit.specs.Findings.{IsNo}
use Rattle.st_audit.specs.Construction.{end_of, End, Judged, Unfounded, IsAudit, IsFoundAt}
use Rattle.st_audit.specs.Construction.{IsFoundBy}

abbrev told_of : verdicts.Verdict → Verdict
told_of (verdicts.Stuck n) = told.Stuck n
told_of (verdicts.Differs n) = told.Differs n
told_of (verdicts.Left p) = told.Left p
told_of (verdicts.Yes ps) = told.Yes ps

told_again : (v : Verdict) → told_of (verdict_of v) ≡ v
told_again (told.Stuck n) = refl
told_again v = refl

abbrev pairs_in : verdicts.Verdict → List (ℕ × ℕ)
pairs_in (verdicts.Yes ps) = ps
pairs_in v = []

-- the finding of acts, a place and a verdict that isn't yes
abbrev unfit : Pid × ℕ → List Act → Verdict → Finding
unfit at acts v = finding.Unfit at.0 at.1 (reason.NotReplayed acts v)

module _ (top : ℕ) (streams : List Stream) where
  judged_once : (acts : List Act) (end : Option (Pid × ℕ)) (one other : Finding)
      → IsFoundAt top streams (Judged acts end) one → IsFoundAt top streams (Judged acts end) other
      → one ≡ other
  judged_once acts end (finding.Fits xs ps) (finding.Fits ys qs) a b =
      let pairs : ps ≡ qs = ap pairs_in
      (one_verdict top streams acts (verdicts.Yes ps) (verdicts.Yes qs) a.1 b.1) in
      ap (λ zs. finding.Fits zs ps) (a.0 ∙ sym b.0) ∙ ap (finding.Fits ys) pairs
  judged_once acts end (finding.Fits xs ps) (finding.Unfit q j (reason.NotReplayed ys w)) a b =
      absurd (subst IsNo (one_verdict top streams acts (verdict_of w) (verdicts.Yes ps) b.2 a.1)
      b.3)
  judged_once acts end (finding.Unfit p i (reason.NotReplayed xs v)) (finding.Fits ys qs) a b =
      absurd (subst IsNo (one_verdict top streams acts (verdict_of v) (verdicts.Yes qs) a.2 b.1)
      a.3)
  judged_once acts end (finding.Unfit p i (reason.NotReplayed xs v))
      (finding.Unfit q j (reason.NotReplayed ys w)) a b =
      let places : (p, i) ≡ (q, j) = same_Some (p, i) (q, j) (sym a.1 ∙ b.1) in
      let verdicts : v ≡ w = sym (told_again v)
      ∙ ap told_of (one_verdict top streams acts (verdict_of v) (verdict_of w) a.2 b.2)
      ∙ told_again w in
      ap (λ at. unfit at xs v) places ∙ ap (λ zs. unfit (q, j) zs v) (a.0 ∙ sym b.0)
      ∙ ap (unfit (q, j) ys) verdicts
  judged_once acts end (finding.Fits xs ps) other a b = absurd b
  judged_once acts end (finding.Unfit p i (reason.NotReplayed xs v)) other a b = absurd b
  judged_once acts end one other a b = absurd a

  found_once : (end : End) (one other : Finding) → IsFoundAt top streams end one
      → IsFoundAt top streams end other
      → one ≡ other
  found_once (Judged acts end) one other a b = judged_once acts end one other a b
  found_once (Unfounded at r) one other a b = a ∙ sym b

  by_refusal : (o : Option PairFault) (one other : Finding) → IsFoundBy top streams o one
      → IsFoundBy top streams o other
      → one ≡ other
  by_refusal (Some f) one other a b = same_Some one other (sym a ∙ b)
  by_refusal None one other a b = found_once (end_of top streams (order streams)) one other a b

pub one_finding : (top : ℕ) (streams : List Stream) (one other : Finding) → IsAudit top streams one
    → IsAudit top streams other → one ≡ other
one_finding top streams one other a b = by_refusal top streams (refusal streams) one other a b
