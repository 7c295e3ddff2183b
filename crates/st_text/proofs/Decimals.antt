-- A number's last two digits are its remainder by 100, and the digits before them spell its
-- quotient by 100.
use Rattle.std.proofs.Common.{◌≡◌, ℕ, zero, suc, ◌+◌, ◌*◌, ◌/◌, ◌%◌, ◌^◌, ◌<◌, ◌≤◌, Bool, true}
use Rattle.std.proofs.Common.{◌&&◌, eqb, List, []}
use Rattle.std.proofs.Common.{◌∷◌, ◌++◌, get_or, refl, append_assoc, inl, inr, arith}
use Rattle.std.specs.Prelude.{decimal}
use Rattle.std.proofs.lemmas.Bool.{cases_lt, eqb-true}
use Rattle.std.proofs.lemmas.Fmt.{decimal_digit, decimal_step}
use Rattle.st_core.proofs.ForCallers.{both_of}
use Rattle.st_text.specs.declared.spell.TheConstants.{PAIRS}

-- ---- the table of pairs

abbrev has_tens : ℕ → Bool
has_tens p = eqb (get_or PAIRS (p * 2) 0) (48 + p / 10)

abbrev has_ones : ℕ → Bool
has_ones p = eqb (get_or PAIRS (p * 2 + 1) 0) (48 + p % 10)

-- the pairs of all numbers below n are right
abbrev are_pairs : ℕ → Bool
are_pairs zero = true
are_pairs (suc p) = (has_tens p && has_ones p) && are_pairs p

below : (n p : ℕ) → are_pairs n ≡ true → p < n
    → (get_or PAIRS (p * 2) 0 ≡ 48 + p / 10) × (get_or PAIRS (p * 2 + 1) 0 ≡ 48 + p % 10)
below zero p all lt = absurd (omega arith)
below (suc n) p all lt =
    let a = both_of (has_tens n && has_ones n) (are_pairs n) all in
    let b = both_of (has_tens n) (has_ones n) a.0 in
    elim (cases_lt p n) [
      | inl less ↦ below n p a.1 less
      | inr most ↦ let e : p ≡ n = omega arith in rw e (eqb-true _ _ b.0, eqb-true _ _ b.1)
    ]

pub pair_at : (p : ℕ) → p < 100
    → (get_or PAIRS (p * 2) 0 ≡ 48 + p / 10) × (get_or PAIRS (p * 2 + 1) 0 ≡ 48 + p % 10)
pair_at p lt = below 100 p refl lt

-- ---- numbers

abbrev pub pair : ℕ → List ℕ
pair n = (48 + n / 10) ∷ (48 + n % 10) ∷ []

pub of_two : (n : ℕ) → 10 ≤ n → n < 100 → decimal n ≡ pair n
of_two n lo hi = rw (decimal_step n lo (omega arith), decimal_digit (n / 10) (omega arith))

pub last_two : (n : ℕ) → 100 ≤ n → n < 2 ^ 64 → decimal n ≡ decimal (n / 100) ++ pair (n % 100)
last_two n lo hi =
    let a : n / 10 / 10 ≡ n / 100 = omega arith in
    let b : n / 10 % 10 ≡ n % 100 / 10 = omega arith in
    let c : n % 10 ≡ n % 100 % 10 = omega arith in
    rw (
      decimal_step n (omega arith) hi,
      decimal_step (n / 10) (omega arith) (omega arith),
      append_assoc,
      a,
      b,
      ← c,
    )

pub last_four : (n : ℕ) → 10000 ≤ n → n < 2 ^ 64
    → decimal n ≡ decimal (n / 10000) ++ pair (n / 100 % 100) ++ pair (n % 100)
last_four n lo hi =
    let a : n / 100 / 100 ≡ n / 10000 = omega arith in
    rw (last_two n (omega arith) hi, last_two (n / 100) (omega arith) (omega arith), a)
