-- 2^60 divides 2^64, so cutting a number to a counter's bits leaves what a serial shows of it; and
-- below 2^60 a serial shows the number itself.
use Rattle.std.proofs.Common.{◌≡◌, ℕ, ◌+◌, ◌^◌, ◌%◌, ◌<◌, ◌⊎◌, max, inl, inr, refl, arith, sym, ◌∙◌}
use Rattle.std.proofs.Common.{ap}
use Rattle.std.proofs.Math.Nat.{mod-add-mod, mod-eq_of_lt, mod_self}
use Rattle.std.proofs.Math.Pow.{mod-mod-pow}
use Rattle.std.proofs.lemmas.Bool.{cases_order}
use Rattle.std.proofs.lemmas.Nat.{mod_below}
use Rattle.node_machine.specs.Counts.{counter_value, next_clock, stamp_count, serial_count}

-- n has 60 bits
abbrev pub FitsSerial : ℕ → Type 0
FitsSerial n = n < 2 ^ 60

pub serial_fits : (n : ℕ) → FitsSerial (serial_count n)
unfolding serial_count
serial_fits n = mod_below n (2 ^ 60) (omega arith)

pub next_of_clock : (clock : ℕ) → stamp_count (next_clock clock) ≡ stamp_count (stamp_count clock)
unfolding serial_count counter_value
next_of_clock clock =
    let n = clock + 1 in
    sym (mod-add-mod (n % 2 ^ 64) (2 ^ 60) 1)
    ∙ ap (λ k. (k + 1) % 2 ^ 60) (mod-mod-pow n 4 60)

-- a serial shows a number of 60 bits as it is
pub serial_same : (n : ℕ) → FitsSerial n → serial_count n ≡ n
unfolding serial_count
serial_same n fits = mod-eq_of_lt fits

pub stamp_of_serial : (clock : ℕ) → stamp_count (serial_count clock) ≡ stamp_count clock
unfolding serial_count
stamp_of_serial clock = mod-add-mod clock (2 ^ 60) 1

pub serial_after : (clock : ℕ) → serial_count (next_clock clock) ≡ stamp_count clock
unfolding serial_count counter_value
serial_after clock = mod-mod-pow (clock + 1) 4 60

pub next_below : (clock : ℕ) → clock + 1 < 2 ^ 60
    → (stamp_count clock ≡ clock + 1) × (next_clock clock ≡ clock + 1)
unfolding serial_count counter_value
next_below clock below = (mod-eq_of_lt below, mod-eq_of_lt (omega arith))

pub next_wraps : (clock : ℕ) → clock + 1 ≡ 2 ^ 60
    → (stamp_count clock ≡ 0) × (next_clock clock ≡ 2 ^ 60)
unfolding serial_count counter_value
next_wraps clock same = (
  ap (λ n. n % 2 ^ 60) same ∙ mod_self (2 ^ 60),
  ap (λ n. n % 2 ^ 64) same,
)

pub next_of_zero : stamp_count 0 ≡ 1
unfolding serial_count
next_of_zero = refl

pub max_either : (a b : ℕ) → (max a b ≡ a) ⊎ (max a b ≡ b)
max_either a b = elim (cases_order a b) [
  | inl same ↦ inl (omega arith)
  | inr other ↦ elim other [
    | inl less ↦ inr (omega arith)
    | inr more ↦ inl (omega arith)
  ]
]

-- a stamp shows the next count, or 0 after the greatest
pub serial_case : (n : ℕ) → FitsSerial n → ((n + 1 < 2 ^ 60) × (stamp_count n ≡ n + 1))
    ⊎ ((n + 1 ≡ 2 ^ 60) × (stamp_count n ≡ 0))
serial_case n fits = elim (cases_order (n + 1) (2 ^ 60)) [
  | inl same ↦ inr (same, (next_wraps n same).0)
  | inr other ↦ elim other [
    | inl less ↦ inl (less, (next_below n less).0)
    | inr more ↦ absurd (omega arith)
  ]
]

pub count_once : (a b : ℕ) → FitsSerial a → FitsSerial b → stamp_count a ≡ stamp_count b → a ≡ b
count_once a b fits_a fits_b same = elim (serial_case a fits_a) [
  | inl below_a ↦ elim (serial_case b fits_b) [
    | inl below_b ↦ let left = below_a.1 in let right = below_b.1 in omega arith
    | inr wraps_b ↦ let left = below_a.1 in let right = wraps_b.1 in absurd (omega arith)
  ]
  | inr wraps_a ↦ elim (serial_case b fits_b) [
    | inl below_b ↦ let left = wraps_a.1 in let right = below_b.1 in absurd (omega arith)
    | inr wraps_b ↦ let left = wraps_a.0 in let right = wraps_b.0 in omega arith
  ]
]
