-- The walk's sums are those of the node, modulo the sizes of counters and serials.
use Rattle.std.proofs.Common.{◌≡◌, ℕ, ◌+◌, ◌-◌, ◌^◌, ◌%◌, ◌<◌, refl, arith, ◌∙◌, ap}
use Rattle.std.proofs.Math.Nat.{mod-eq_of_lt}
use Rattle.std.proofs.Math.Pow.{mod-mod-pow}
use Rattle.node_machine.specs.Counts.{counter_value, next_clock, serial_count, stamp_count}

pub clock_is : (clock : ℕ) → (clock + 1) % 2 ^ 64 ≡ next_clock clock
unfolding counter_value
clock_is clock = refl

pub count_is : (clock : ℕ) → (clock + 1) % 2 ^ 64 % 2 ^ 60 ≡ stamp_count clock
unfolding serial_count
count_is clock = mod-mod-pow (clock + 1) 4 60

pub serial_is : (n : ℕ) → n % 2 ^ 60 ≡ serial_count n
unfolding serial_count
serial_is n = refl

pub count_wraps : stamp_count (2 ^ 60 - 1) ≡ 0
unfolding serial_count
count_wraps = refl

pub count_follows : (count : ℕ) → 0 < count → count < 2 ^ 60 → stamp_count (count - 1) ≡ count
unfolding serial_count
count_follows count above below =
    let same : count - 1 + 1 ≡ count = omega arith in
    ap (λ n. n % 2 ^ 60) same ∙ mod-eq_of_lt below
