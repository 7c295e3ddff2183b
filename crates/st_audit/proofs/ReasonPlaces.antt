-- A reason of pairing names the place of an event, so it holds as a finding.
use Rattle.std.proofs.Common.{◌≡◌, ℕ, List, Option, Some, IsSome, refl, ◌∙◌, subst}
use Rattle.std.specs.Prelude.{MatchOption}
use Rattle.std.proofs.lemmas.Option.{same_Some}
use Rattle.st_core.specs.declared.types.Pid.{Pid}
use Rattle.st_core.specs.Pid.{IsRising}
use Rattle.st_core.specs.Run.{Stream, pids_of}
use Rattle.st_pair.specs.declared.answer.PairFault.{PairFault}
use Rattle.st_pair.specs.declared.answer.PairFault.TheVariants as fault
use Rattle.st_pair.specs.Places.{event_at}
use Rattle.st_pair.specs.Pairing.{refusal, IsPairFault}
use Rattle.st_pair.proofs.ForCallers.{place_of, reason_at}
use Rattle.st_audit.specs.declared.finding.Finding.{Finding}
use Rattle.st_audit.specs.Findings.{unfit_by, IsFinding}

module _ (streams : List Stream) (rising : IsRising (pids_of streams)) where
  -- the place of a fault has an event
  placed : (f : PairFault) (p : Pid) (i : ℕ) → refusal streams ≡ Some f → place_of f ≡ Some (p, i)
      → IsSome (event_at streams p i)
  placed f p i h is =
      let x = reason_at streams f rising h in
      let there : IsSome (event_at streams x.0.0 x.0.1) = rw x.2 refl in
      subst (λ (at : Pid × ℕ). IsSome (event_at streams at.0 at.1))
      (same_Some x.0 (p, i) (x.3 ∙ is)) there

  holds_by : (top : ℕ) (f : PairFault) → IsPairFault streams f
      → MatchOption (unfit_by f) (Unit {0}) (IsFinding top streams)
  holds_by top fault.Memory is = tt
  holds_by top (fault.PrevNotBefore p i) is = (placed (fault.PrevNotBefore p i) p i is refl, is)
  holds_by top (fault.NotRising p i j) is = (placed (fault.NotRising p i j) p i is refl, is)
  holds_by top (fault.Repeated p i q j) is = (placed (fault.Repeated p i q j) p i is refl, is)
  holds_by top (fault.Mismatch p i q j) is = (placed (fault.Mismatch p i q j) p i is refl, is)

  -- a reason of pairing holds at the place of the finding
  pub fault_holds : (top : ℕ) (f : PairFault) (found : Finding) → IsPairFault streams f
      → unfit_by f ≡ Some found → IsFinding top streams found
  fault_holds top f found is by =
      subst (λ (o : Option Finding). MatchOption o (Unit {0}) (IsFinding top streams)) by
      (holds_by top f is)
