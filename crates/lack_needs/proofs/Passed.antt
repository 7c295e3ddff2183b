-- A property that holds of each item before an index, and of the item there, holds of each before
-- the next index; and pids that rise occur once.
use Rattle.std.proofs.Common.{◌≡◌, ℕ, ◌+◌, ◌<◌, zero, suc, List, [], ◌∷◌, Some, inl, inr, slice_get}
use Rattle.std.proofs.Common.{refl, sym, ◌∙◌, ap, subst, arith}
use Rattle.std.proofs.lemmas.Bool.{cases_lt}
use Rattle.std.proofs.lemmas.Option.{none-some, same_Some}
use Rattle.st_core.specs.declared.types.Pid.{Pid}
use Rattle.st_core.specs.Pid.{IsBelow, IsRising}
use Rattle.st_core.proofs.ForCallers.{all_at, not_below_itself}

pub more_passed : {A : Type 0} (P : ℕ → A → Type 0) (xs : List A) (n : ℕ) (x : A)
    → slice_get xs n ≡ Some x → ((k : ℕ) (y : A) → k < n → slice_get xs k ≡ Some y → P k y) → P n x
    → (k : ℕ) (y : A) → k < n + 1 → slice_get xs k ≡ Some y → P k y
more_passed P xs n x at before here k y less there = elim (cases_lt k n) [
  | inl below ↦ before k y below there
  | inr high ↦
      let one : n ≡ k = omega (arith, less, high) in
      let same = same_Some x y (sym at ∙ ap (slice_get xs) one ∙ there) in
      subst (λ m. P m y) one (subst (P n) same here)
]

pub one_place : (ps : List Pid) (i j : ℕ) (p : Pid) → IsRising ps → slice_get ps i ≡ Some p
    → slice_get ps j ≡ Some p → i ≡ j
one_place [] i j p rising at_i at_j = absurd (none-some p at_i)
one_place (q ∷ ps) zero zero p rising at_i at_j = refl
one_place (q ∷ ps) zero (suc j) p rising at_i at_j =
    absurd (not_below_itself p (subst (λ x. IsBelow x p) (same_Some q p at_i)
    (all_at (IsBelow q) ps j p rising.0 at_j)))
one_place (q ∷ ps) (suc i) zero p rising at_i at_j =
    absurd (not_below_itself p (subst (λ x. IsBelow x p) (same_Some q p at_j)
    (all_at (IsBelow q) ps i p rising.0 at_i)))
one_place (q ∷ ps) (suc i) (suc j) p rising at_i at_j =
    ap suc (one_place ps i j p rising.1 at_i at_j)
