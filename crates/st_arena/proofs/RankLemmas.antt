-- A rank is the sum of the marks before a slot, so it grows by one after each live slot and stays
-- after each dead one.
use Rattle.std.proofs.Common.{◌≡◌, ◌+◌, ◌<◌, ◌≤◌, ℕ, zero, suc, List, [], ◌∷◌, ◌++◌, length, take}
use Rattle.std.proofs.Common.{set, get_or, refl, ap, arith}
use Rattle.std.proofs.lemmas.List.{take-set-le}
use Rattle.std.proofs.lemmas.List.Sums.{sum_by-cons}
use Rattle.std.specs.List.{sum}
use Rattle.std.specs.Prelude.{replicate}

-- ---- in one list
-- a later slot has no smaller rank
pub rank-le : (marks : List ℕ) (slot later : ℕ) → slot ≤ later
    → sum (take slot marks) ≤ sum (take later marks)
rank-le marks zero later le = let none : sum (take 0 marks) ≡ 0 = refl in omega (arith, none)
rank-le [] (suc slot) later le = let none : sum (take (suc slot) []) ≡ 0 = refl in
    omega (arith, none)
rank-le (x ∷ xs) (suc slot) zero le = absurd (omega (arith, le))
rank-le (x ∷ xs) (suc slot) (suc later) le =
    let rest = rank-le xs slot later (omega (arith, le)) in
    let here = sum_by-cons (λ n. n) x (take slot xs) in
    let there = sum_by-cons (λ n. n) x (take later xs) in
    omega (arith, rest, here, there)

-- the slot after a live one has the next rank
pub rank-live : (marks : List ℕ) (slot : ℕ) → get_or marks slot 0 ≡ 1
    → sum (take (suc slot) marks) ≡ suc (sum (take slot marks))
rank-live [] slot live = absurd (omega (arith, live))
rank-live (x ∷ xs) zero live =
    let first : sum (take 1 (x ∷ xs)) ≡ x + 0 = sum_by-cons (λ n. n) x [] in
    let none : sum (take 0 (x ∷ xs)) ≡ 0 = refl in
    let one : x ≡ 1 = live in
    omega (arith, first, none, one)
rank-live (x ∷ xs) (suc slot) live =
    let rest = rank-live xs slot live in
    let here = sum_by-cons (λ n. n) x (take slot xs) in
    let there = sum_by-cons (λ n. n) x (take (suc slot) xs) in
    omega (arith, rest, here, there)

-- ---- after one mark is written
-- ranks up to the slot stay
pub rank_before_mark : (marks : List ℕ) (slot mark at : ℕ) → at ≤ slot
    → sum (take at (set marks slot mark)) ≡ sum (take at marks)
rank_before_mark marks slot mark at before = ap sum (take-set-le at marks slot mark before)

-- ranks after it change as the mark does
pub rank_behind_mark : (marks : List ℕ) (slot mark at : ℕ) → slot < at → slot < length marks
    → get_or marks slot 0 + sum (take at (set marks slot mark)) ≡ mark + sum (take at marks)
rank_behind_mark [] slot mark at behind inside = absurd (omega (arith, inside))
rank_behind_mark (x ∷ xs) slot mark zero behind inside = absurd (omega (arith, behind))
rank_behind_mark (x ∷ xs) zero mark (suc at) behind inside =
    let old = sum_by-cons (λ n. n) x (take at xs) in
    let new = sum_by-cons (λ n. n) mark (take at xs) in
    omega (arith, old, new)
rank_behind_mark (x ∷ xs) (suc slot) mark (suc at) behind inside =
    let rest = rank_behind_mark xs slot mark at (omega (arith, behind)) (omega (arith, inside)) in
    let old = sum_by-cons (λ n. n) x (take at xs) in
    let new = sum_by-cons (λ n. n) x (take at (set xs slot mark)) in
    omega (arith, rest, old, new)

-- ---- in new slots, the first of which are live
-- the marks of new slots: `live` ones, then `dead` zeros
abbrev new_marks : ℕ → ℕ → List ℕ
new_marks live dead = replicate live 1 ++ replicate dead 0

-- a spare slot is dead
pub no_mark : (spare slot : ℕ) → get_or (replicate spare zero) slot 0 ≡ 0
no_mark zero slot = refl
no_mark (suc spare) zero = refl
no_mark (suc spare) (suc slot) = no_mark spare slot

pub no_live : (dead : ℕ) → sum (replicate dead 0) ≡ 0
no_live zero = refl
no_live (suc dead) = omega (arith, no_live dead, sum_by-cons (λ n. n) 0 (replicate dead 0))

pub new_live : (live dead : ℕ) → sum (replicate live 1 ++ replicate dead 0) ≡ live
new_live zero dead = no_live dead
new_live (suc live) dead =
    omega (arith, new_live live dead, sum_by-cons (λ n. n) 1 (replicate live 1 ++ replicate dead 0))

pub new_mark_live : (live dead slot : ℕ) → slot < live → get_or (new_marks live dead) slot 0 ≡ 1
new_mark_live zero dead slot inside = absurd (omega (arith, inside))
new_mark_live (suc live) dead zero inside = refl
new_mark_live (suc live) dead (suc slot) inside =
    new_mark_live live dead slot (omega (arith, inside))

pub new_mark_dead : (live dead slot : ℕ) → live ≤ slot → get_or (new_marks live dead) slot 0 ≡ 0
new_mark_dead zero zero slot past = refl
new_mark_dead zero (suc dead) zero past = refl
new_mark_dead zero (suc dead) (suc slot) past = new_mark_dead zero dead slot (omega arith)
new_mark_dead (suc live) dead zero past = absurd (omega (arith, past))
new_mark_dead (suc live) dead (suc slot) past = new_mark_dead live dead slot (omega (arith, past))

-- the rank of a live slot is its number
pub new_rank : (live dead slot : ℕ) → slot ≤ live
    → sum (take slot (replicate live 1 ++ replicate dead 0)) ≡ slot
new_rank live dead zero inside = refl
new_rank zero dead (suc slot) inside = absurd (omega (arith, inside))
new_rank (suc live) dead (suc slot) inside =
    let rest = new_rank live dead slot (omega (arith, inside)) in
    let here = sum_by-cons (λ n. n) 1 (take slot (replicate live 1 ++ replicate dead 0)) in
    omega (arith, rest, here)
