-- A process's number is at its place, and putting a number there changes that of no other process.
use Rattle.std.proofs.Common.{◌≡◌, ◌≢◌, ℕ, ◌<◌, zero, suc, cond, Bool, true, false, List, [], ◌∷◌}
use Rattle.std.proofs.Common.{length, replicate, Some, refl, sym, ◌∙◌, ap, arith}
use Rattle.std.specs.List.{AllByRecursion, slice_get, slice_set}
use Rattle.std.specs.Option.{unwrap_or}
use Rattle.std.proofs.lemmas.Option.{none-some, same_Some}
use Rattle.st_core.specs.declared.types.Pid.{Pid}
use Rattle.st_core.specs.Pid.{pid_eq, IsRising}
use Rattle.st_core.proofs.ForCallers.{above_apart, pid_eq-refl, pid_eq-swap, pid_eq-true}
use Rattle.node_streams.specs.Tables.{number_by_pid}

pub set_other : (xs : List ℕ) (i k : ℕ) (x : ℕ) → k ≢ i
    → slice_get (slice_set xs i x) k ≡ slice_get xs k
set_other [] i k x apart = refl
set_other (y ∷ xs) zero zero x apart = absurd (apart refl)
set_other (y ∷ xs) zero (suc k) x apart = refl
set_other (y ∷ xs) (suc i) zero x apart = refl
set_other (y ∷ xs) (suc i) (suc k) x apart = set_other xs i k x (λ same. apart (ap suc same))

pub set_same : (xs : List ℕ) (i : ℕ) (x : ℕ) → i < length xs
    → slice_get (slice_set xs i x) i ≡ Some x
set_same [] i x within = absurd (omega arith)
set_same (y ∷ xs) zero x within = refl
set_same (y ∷ xs) (suc i) x within = set_same xs i x (omega arith)

pub number_here : (ps : List Pid) (ns : List ℕ) (i : ℕ) (p : Pid) → IsRising ps
    → slice_get ps i ≡ Some p → number_by_pid ps ns p ≡ unwrap_or (slice_get ns i) 0
number_here [] ns i p rising at = absurd (none-some p at)
number_here (q ∷ ps) [] zero p rising at = refl
number_here (q ∷ ps) [] (suc i) p rising at = refl
number_here (q ∷ ps) (n ∷ ns) zero p rising at =
    ap (λ r. cond (pid_eq r p) n (number_by_pid ps ns p)) (same_Some q p at)
    ∙ ap (λ b. cond b n (number_by_pid ps ns p)) (pid_eq-refl p)
number_here (q ∷ ps) (n ∷ ns) (suc i) p rising at =
    ap (λ b. cond b n (number_by_pid ps ns p)) (above_apart ps q p i rising.0 at)
    ∙ number_here ps ns i p rising.1 at

pub number_none : (ps : List Pid) (ns : List ℕ) (p : Pid)
    → AllByRecursion (λ q. pid_eq q p ≡ false) ps → number_by_pid ps ns p ≡ 0
number_none [] ns p all = refl
number_none (q ∷ ps) [] p all = refl
number_none (q ∷ ps) (n ∷ ns) p all =
    ap (λ b. cond b n (number_by_pid ps ns p)) all.0 ∙ number_none ps ns p all.1

either : (b : Bool) (n : ℕ) → cond b n n ≡ n
either true n = refl
either false n = refl

pub number_zeros : (ps : List Pid) (n : ℕ) (p : Pid) → number_by_pid ps (replicate n 0) p ≡ 0
number_zeros [] n p = refl
number_zeros (q ∷ ps) zero p = refl
number_zeros (q ∷ ps) (suc n) p =
    ap (λ m. cond (pid_eq q p) 0 m) (number_zeros ps n p) ∙ either (pid_eq q p) 0

pub number_put : (ps : List Pid) (ns : List ℕ) (i m : ℕ) (p q : Pid) → IsRising ps
    → slice_get ps i ≡ Some p → i < length ns
    → number_by_pid ps (slice_set ns i m) q ≡ cond (pid_eq p q) m (number_by_pid ps ns q)
number_put [] ns i m p q rising at within = absurd (none-some p at)
number_put (r ∷ ps) [] i m p q rising at within = absurd (omega arith)
number_put (r ∷ ps) (n ∷ ns) zero m p q rising at within =
    let same = same_Some r p at in
    ap (λ s. cond (pid_eq s q) m (number_by_pid ps ns q)) same
    ∙ (elim (pid_eq p q) as (λ b. pid_eq p q ≡ b → cond b m (number_by_pid ps ns q)
    ≡ cond b m (cond (pid_eq r q) n (number_by_pid ps ns q))) [
      | true ↦ λ _. refl
      | false ↦ λ apart. sym (ap (λ b. cond b n (number_by_pid ps ns q))
          (ap (λ s. pid_eq s q) same ∙ apart))
    ]) refl
number_put (r ∷ ps) (n ∷ ns) (suc i) m p q rising at within =
    ap (λ k. cond (pid_eq r q) n k) (number_put ps ns i m p q rising.1 at (omega arith))
    ∙ (elim (pid_eq r q) as (λ b. pid_eq r q ≡ b
    → cond b n (cond (pid_eq p q) m (number_by_pid ps ns q))
    ≡ cond (pid_eq p q) m (cond b n (number_by_pid ps ns q))) [
      | true ↦ λ same.
          let apart : pid_eq p q ≡ false = ap (pid_eq p) (sym (pid_eq-true r q same))
          ∙ pid_eq-swap p r ∙ above_apart ps r p i rising.0 at in
          sym (ap (λ b. cond b m n) apart)
      | false ↦ λ _. refl
    ]) refl
