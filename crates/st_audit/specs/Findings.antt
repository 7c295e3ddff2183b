-- The meaning of the auditor's findings.
use Rattle.std.specs.Prelude.{◌≡◌, ℕ, List, Option, Some, None, IsSome}
use Rattle.st_core.specs.declared.types.Act.{Act}
use Rattle.st_core.specs.Laws.{NoReset}
use Rattle.st_core.specs.declared.types.Pid.{Pid}
use Rattle.st_core.specs.Run.{Shows, Stream}
use Rattle.st_core.specs.Verdict as verdicts
use Rattle.st_check.specs.Answers.{verdict_of}
use Rattle.st_pair.specs.declared.answer.PairFault.{PairFault}
use Rattle.st_pair.specs.declared.answer.PairFault.TheVariants as fault
use Rattle.st_pair.specs.Places.{event_at}
use Rattle.st_pair.specs.Pairing.{refusal}
use Rattle.st_audit.specs.declared.finding.Reason.{Reason}
use Rattle.st_audit.specs.declared.finding.Reason.TheVariants as reason
use Rattle.st_audit.specs.declared.finding.Finding.{Finding}
use Rattle.st_audit.specs.declared.finding.Finding.TheVariants as finding
use Rattle.st_plan.specs.Marks.{told_parts, Marks}
use Rattle.st_plan.specs.Reasons.{HoldsOfMoveAt, uncaused, too_wide}

-- the verdict isn't yes
abbrev pub IsNo : verdicts.Verdict → Type 0
IsNo (verdicts.Yes ps) = ⊥
IsNo v = Unit {0}

-- the reason holds at (p, i): the first four are pairing's, and the others come only if pairing
-- accepts the streams
abbrev pub IsReason : ℕ → List Stream → Pid → ℕ → Reason → Type 0
IsReason top streams p i reason.PrevNotBefore = refusal streams ≡ Some (fault.PrevNotBefore p i)
IsReason top streams p i (reason.NotRising j) = refusal streams ≡ Some (fault.NotRising p i j)
IsReason top streams p i (reason.Repeated q j) = refusal streams ≡ Some (fault.Repeated p i q j)
IsReason top streams p i (reason.Mismatch q j) = refusal streams ≡ Some (fault.Mismatch p i q j)
IsReason top streams p i reason.Uncaused = (refusal streams ≡ None)
    × HoldsOfMoveAt uncaused streams p i
IsReason top streams p i reason.TooWide = (refusal streams ≡ None)
    × HoldsOfMoveAt too_wide streams p i
IsReason top streams p i (reason.NotReplayed acts v) =
    (refusal streams ≡ None) × verdicts.IsVerdict top streams acts (verdict_of v)
    × IsNo (verdict_of v)

-- the finding is a certificate that the checker accepts, or names an event that is there and a
-- reason that holds at it
abbrev pub IsFinding : ℕ → List Stream → Finding → Type 0
IsFinding top streams (finding.Fits acts pairs) =
    verdicts.IsVerdict top streams acts (verdicts.Yes pairs)
IsFinding top streams (finding.Unfit p i r) =
    IsSome (event_at streams p i) × IsReason top streams p i r

-- the finding with a reason of pairing
abbrev pub unfit_by : PairFault → Option Finding
unfit_by fault.Memory = None
unfit_by (fault.PrevNotBefore p i) = Some (finding.Unfit p i reason.PrevNotBefore)
unfit_by (fault.NotRising p i j) = Some (finding.Unfit p i (reason.NotRising j))
unfit_by (fault.Repeated p i q j) = Some (finding.Unfit p i (reason.Repeated q j))
unfit_by (fault.Mismatch p i q j) = Some (finding.Unfit p i (reason.Mismatch q j))

-- if pairing refuses the streams, the finding has its reason
abbrev pub HandsOn : List Stream → Finding → Type 0
HandsOn streams found = (f : PairFault) → refusal streams ≡ Some f → unfit_by f ≡ Some found

-- the reason of pairing that the finding has, if it has one
abbrev pub fault_of : Finding → Option PairFault
fault_of (finding.Unfit p i reason.PrevNotBefore) = Some (fault.PrevNotBefore p i)
fault_of (finding.Unfit p i (reason.NotRising j)) = Some (fault.NotRising p i j)
fault_of (finding.Unfit p i (reason.Repeated q j)) = Some (fault.Repeated p i q j)
fault_of (finding.Unfit p i (reason.Mismatch q j)) = Some (fault.Mismatch p i q j)
fault_of found = None

-- the finding is a certificate
abbrev pub HasCertificate : Finding → Type 0
HasCertificate (finding.Fits acts pairs) = Unit {0}
HasCertificate (finding.Unfit p i r) = ⊥

-- there are acts, none of them is a reset, and they show the told events of the streams
abbrev pub ShowTold : ℕ → List Stream → Marks → Option (List Act) → Type 0
ShowTold top streams marks None = ⊥
ShowTold top streams marks (Some acts) = Shows top (told_parts marks streams) acts × NoReset acts
