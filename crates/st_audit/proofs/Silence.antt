-- The acts that make a process ready for a stamp report nothing: below the count they raise the
-- clock without flags, and above it they set a token at most.
use Rattle.std.proofs.Common.{◌≡◌, ℕ, ◌+◌, ◌-◌, ◌<◌, ◌≤◌, ◌==◌, inl, inr, max, nat_lt, true, false}
use Rattle.std.proofs.Common.{List, [], Some, refl, sym, ◌∙◌, ap, subst, arith}
use Rattle.std.proofs.lemmas.Bool.{cases_lt, eq-eqb}
use Rattle.std.proofs.lemmas.Bool.Decides.{nat_tests}
use Rattle.std.proofs.lemmas.Option.{same_Some}
use Rattle.st_core.specs.declared.types.Pid.{Pid}
use Rattle.st_core.specs.declared.types.Label.{Label}
use Rattle.st_core.specs.declared.types.Flags.{Flags}
use Rattle.st_core.specs.declared.types.Serial.{Serial}
use Rattle.st_core.specs.State.{Process, State, process}
use Rattle.st_core.specs.Step.{Outcome}
use Rattle.st_core.specs.Run.{run_from, stream}
use Rattle.st_plan.specs.declared.plan.Start.{Start}
use Rattle.st_plan.specs.Build.{ready, start_of}
use Rattle.st_plan.proofs.ForCallers.{is_ready, lifted, stream_silent, Silent}
use Rattle.st_audit.specs.Progress.{is_uncaused}
use Rattle.st_audit.proofs.MovedCounts.{caused_by}
use Rattle.st_audit.proofs.GreaterClocks.{run_wider}

-- if the count isn't above the clock, and prev is the last count, the acts are those for the next
-- count
ready_low : (p : Pid) (x : Start) (n : Label) (s : Serial) (f : Flags) → s.prev ≡ x.last
    → s.this ≤ x.clock
    → ready p x n s f ≡ ready p x n (record { prev = s.prev; this = x.clock + 1 }) f
ready_low p x n s f same low =
    let test : (s.prev == x.last) ≡ true = eq-eqb s.prev x.last same in
    let high : nat_lt x.clock (s.this - 1) ≡ false = grind (arith, nat_tests) in
    let next : nat_lt x.clock (x.clock + 1 - 1) ≡ false = grind (arith, nat_tests) in
    rw (test, high, next) refl

module _ (top : ℕ) (s : State) (p : Pid) (r : Process) (is : process s p ≡ Some r) (n : Label)
    (f : Flags) where
  below_silent : (a : Serial) (os : List Outcome) → a.prev < a.this → r.local.clock < a.this
      → is_uncaused (start_of r.local) a ≡ false → run_from top s (ready p (start_of r.local) n a f)
      ≡ Some os
      → stream (ready p (start_of r.local) n a f) os p ≡ []
  below_silent a os rises below caused runs =
      let wide = max top a.this in
      let acts = ready p (start_of r.local) n a f in
      let at = is_ready wide p r.local n a f rises (omega arith) below
      (caused_by r.local a caused) in
      let lift = lifted wide p acts s r r.local at.end is refl at.runs in
      let same : lift.os ≡ os =
      same_Some lift.os os (sym lift.runs ∙ run_wider top wide (omega arith) s acts os runs) in
      stream_silent acts os p (subst Silent same lift.silent)

  pub ready_silent : (a : Serial) (os : List Outcome) → a.prev < a.this
      → is_uncaused (start_of r.local) a ≡ false
      → run_from top s (ready p (start_of r.local) n a f) ≡ Some os
      → stream (ready p (start_of r.local) n a f) os p ≡ []
  ready_silent a os rises caused runs = elim (cases_lt r.local.clock a.this) [
    | inl below ↦ below_silent a os rises below caused runs
    | inr above ↦ elim (caused_by r.local a caused) [
      | inl same ↦
          let b : Serial = record { prev = a.prev; this = r.local.clock + 1 } in
          let low = ready_low p (start_of r.local) n a f same (omega arith) in
          ap (λ acts. stream acts os p) low
          ∙ below_silent b os (omega arith) (omega arith) caused
          (ap (run_from top s) (sym low) ∙ runs)
      | inr least ↦ absurd (omega arith)
    ]
  ]
