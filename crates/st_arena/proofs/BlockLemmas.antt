-- A rank is the sum of the leaves before the slot's block, and of the marks before the slot in its
-- block, since each leaf counts the marks of its block.
use Rattle.std.proofs.Common.{◌≡◌, ◌≢◌, ℕ, zero, suc, ◌+◌, ◌-◌, ◌*◌, ◌<◌, ◌≤◌, List, [], ◌∷◌, ◌++◌}
use Rattle.std.proofs.Common.{length, take, drop, set, get_or, inl, inr, refl, sym, ap, ◌∙◌, arith}
use Rattle.std.proofs.lemmas.Bool.{cases_lt, cases_eq}
use Rattle.std.proofs.lemmas.List.{get_or-drop, get_or-set_same, get_or-set_other, length-set}
use Rattle.std.proofs.lemmas.List.{take_all, take-take, drop-take, length-append, length-replicate}
use Rattle.std.proofs.lemmas.List.Sums.{sum_by-cons, sum_by-take-drop, sum_by-take-le}
use Rattle.std.specs.List.{sum}
use Rattle.std.specs.Prelude.{replicate}
use Rattle.st_arena.specs.Blocks.{AreMarks, AreCounted, CountsFirst}
use Rattle.st_arena.specs.Tree.{count_at, sums, wide, IsTree}
use Rattle.st_arena.proofs.RankLemmas.{rank-le, rank-live, rank_before_mark, rank_behind_mark}
use Rattle.st_arena.proofs.RankLemmas.{new_live, new_mark_live, new_mark_dead, new_rank}
use Rattle.st_arena.proofs.TreeLemmas.{root-total}

-- ---- marks
-- the sum of the first n + m marks is the sum of the first n and of the m marks after them
pub sum-split : (marks : List ℕ) (n m : ℕ)
    → sum (take (n + m) marks) ≡ sum (take n marks) + sum (take m (drop n marks))
sum-split marks n m =
    let whole = sum_by-take-drop (λ x. x) (take (n + m) marks) n in
    let front = ap sum (take-take n (n + m) marks (omega arith)) in
    let back = ap sum (drop-take n m marks) in
    omega (arith, whole, front, back)

-- the first n marks have at most n live slots
pub rank-most : (marks : List ℕ) → AreMarks marks → (n : ℕ) → sum (take n marks) ≤ n
rank-most marks bits zero = let none : sum (take 0 marks) ≡ 0 = refl in omega (arith, none)
rank-most [] bits (suc n) = let none : sum (take (suc n) []) ≡ 0 = refl in omega (arith, none)
rank-most (x ∷ xs) bits (suc n) =
    let rest = rank-most xs (λ slot. bits (suc slot)) n in
    let here = sum_by-cons (λ y. y) x (take n xs) in
    let one : x ≤ 1 = bits zero in
    omega (arith, rest, here, one)

-- the slot after a dead one has the same rank
rank-dead : (marks : List ℕ) (slot : ℕ) → get_or marks slot 0 ≡ 0
    → sum (take (suc slot) marks) ≡ sum (take slot marks)
rank-dead [] zero dead = refl
rank-dead [] (suc slot) dead = refl
rank-dead (x ∷ xs) zero dead =
    let first : sum (take 1 (x ∷ xs)) ≡ x + 0 = sum_by-cons (λ n. n) x [] in
    let none : sum (take 0 (x ∷ xs)) ≡ 0 = refl in
    let is : x ≡ 0 = dead in
    omega (arith, first, none, is)
rank-dead (x ∷ xs) (suc slot) dead =
    let rest = rank-dead xs slot dead in
    let here = sum_by-cons (λ n. n) x (take slot xs) in
    let there = sum_by-cons (λ n. n) x (take (suc slot) xs) in
    omega (arith, rest, here, there)

-- `take count` returns at most `count` elements
pub front-short : (xs : List ℕ) (count : ℕ) → length (take count xs) ≤ count
front-short xs zero = omega arith
front-short [] (suc count) = omega arith
front-short (x ∷ xs) (suc count) = let rest = front-short xs count in omega (arith, rest)

-- marks stay 0 or 1 if 0 or 1 is written
pub marks-set : (marks : List ℕ) (slot mark : ℕ) → AreMarks marks → slot < length marks → mark ≤ 1
    → AreMarks (set marks slot mark)
marks-set marks slot mark bits inside bit at =
    elim (cases_eq at slot) [
      | inl here ↦
          let written : get_or (set marks slot mark) at 0 ≡ mark =
          ap (λ n. get_or (set marks slot mark) n 0) here ∙ get_or-set_same marks slot mark 0
          inside in
          omega (arith, written, bit)
      | inr apart ↦
          let same = get_or-set_other marks slot at mark 0 apart in
          let most = bits at in
          omega (arith, same, most)
    ]

-- ---- the leaves
module _ (marks counts : List ℕ) (height : ℕ) (of : AreCounted marks counts height) where
  -- the root counts all live slots
  pub live-total : sum marks ≡ count_at counts 1
  live-total =
      let whole = ap sum (take_all (wide height * 64) marks (omega (arith, of.len))) in
      sym whole ∙ sym (of.blocks (wide height) (omega arith)) ∙ root-total counts height of.tree

  -- a leaf counts the live slots of its block
  pub leaf-counts : (block : ℕ) → block < wide height
      → sum (take (block * 64) marks) + count_at counts (wide height + block)
      ≡ sum (take (block * 64 + 64) marks)
  leaf-counts block inside =
      let here = of.blocks block (omega (arith, inside)) in
      let next : sums (count_at counts) (wide height) block + count_at counts (wide height + block)
      ≡ sum (take (suc block * 64) marks) = of.blocks (suc block) (omega (arith, inside)) in
      let end : suc block * 64 ≡ block * 64 + 64 = omega arith in
      let at = ap (λ n. sum (take n marks)) end in
      omega (arith, here, next, at)

  -- the marks cut out for a block sum up to its leaf's count
  pub block-sum : (block : ℕ) → block < wide height
      → sum (take 64 (drop (block * 64) marks)) ≡ count_at counts (wide height + block)
  block-sum block inside =
      let counts_it = leaf-counts block inside in
      let split = sum-split marks (block * 64) 64 in
      omega (arith, counts_it, split)

  module _ (block slot : ℕ) (inside : block < wide height) (from : block * 64 ≤ slot)
      (to : slot < block * 64 + 64) where
    -- a block with a dead slot isn't full
    pub leaf-room : get_or marks slot 0 ≡ 0 → count_at counts (wide height + block) < 64
    leaf-room dead =
        let counts_it = leaf-counts block inside in
        let past = rank-dead marks slot dead in
        let at_slot : (block * 64) + (slot - block * 64) ≡ slot = omega (arith, from) in
        let front = sum-split marks (block * 64) (slot - block * 64) in
        let front_at = ap (λ n. sum (take n marks)) at_slot in
        let front_most = rank-most (drop (block * 64) marks) (marks-drop (block * 64))
        (slot - block * 64) in
        let at_end : suc slot + (block * 64 + 63 - slot) ≡ block * 64 + 64 = omega (arith, to) in
        let back = sum-split marks (suc slot) (block * 64 + 63 - slot) in
        let back_at = ap (λ n. sum (take n marks)) at_end in
        let back_most = rank-most (drop (suc slot) marks) (marks-drop (suc slot))
        (block * 64 + 63 - slot) in
        omega (
          arith,
          counts_it,
          past,
          front,
          front_at,
          front_most,
          back,
          back_at,
          back_most,
          from,
          to,
        )
      where
        marks-drop : (n : ℕ) → AreMarks (drop n marks)
        marks-drop n at =
            let same = get_or-drop n marks at 0 in
            let most = of.bits (n + at) in
            omega (arith, same, most)

    -- a block with a live slot isn't empty
    pub leaf-some : get_or marks slot 0 ≡ 1 → 0 < count_at counts (wide height + block)
    leaf-some live =
        let counts_it = leaf-counts block inside in
        let past = rank-live marks slot live in
        let front = rank-le marks (block * 64) slot from in
        let back = rank-le marks (suc slot) (block * 64 + 64) (omega (arith, to)) in
        omega (arith, counts_it, past, front, back)

-- one mark is written, and the count of its block's leaf changes by the same
module _ (marks old new : List ℕ) (height block slot was mark : ℕ)
    (of : AreCounted marks old height)
    (tree : IsTree new height) (from : block * 64 ≤ slot) (to : slot < block * 64 + 64)
    (inside : slot < length marks)
    (before : get_or marks slot 0 ≡ was) (bit : mark ≤ 1)
    (here : was + count_at new (wide height + block) ≡ mark + count_at old (wide height + block))
    (others : (other : ℕ) → other < wide height → other ≢ block
    → count_at new (wide height + other) ≡ count_at old (wide height + other)) where
  sums-before : (count : ℕ) → count ≤ block → count ≤ wide height
      → sums (count_at new) (wide height) count ≡ sums (count_at old) (wide height) count
  sums-before zero low most = refl
  sums-before (suc count) low most =
      let rest = sums-before count (omega (arith, low)) (omega (arith, most)) in
      let same = others count (omega (arith, most)) (λ e. absurd (omega (arith, e, low))) in
      omega (arith, rest, same)

  sums-behind : (count : ℕ) → block < count → count ≤ wide height
      → was + sums (count_at new) (wide height) count
      ≡ mark + sums (count_at old) (wide height) count
  sums-behind zero high most = absurd (omega (arith, high))
  sums-behind (suc count) high most =
      elim (cases_eq count block) [
        | inl same ↦
            let rest = sums-before count (omega (arith, same)) (omega (arith, most)) in
            let new_at = ap (λ n. count_at new (wide height + n)) same in
            let old_at = ap (λ n. count_at old (wide height + n)) same in
            omega (arith, rest, new_at, old_at, here)
        | inr apart ↦
            let rest = sums-behind count (omega (arith, high, apart)) (omega (arith, most)) in
            let same = others count (omega (arith, most)) apart in
            omega (arith, rest, same)
      ]

  -- the leaves count the live slots again
  pub counted-set : AreCounted (set marks slot mark) new height
  counted-set =
      record {
        tree = tree;
        bits = marks-set marks slot mark of.bits inside bit;
        len = length-set marks slot mark ∙ of.len;
        blocks =
            λ count most. elim (cases_lt block count) [
              | inl high ↦
                  let leaves = sums-behind count high most in
                  let ranks = rank_behind_mark marks slot mark (count * 64)
                  (omega (arith, to, high)) inside in
                  omega (arith, leaves, ranks, before, of.blocks count most)
              | inr low ↦
                  let leaves = sums-before count low most in
                  let ranks = rank_before_mark marks slot mark (count * 64)
                  (omega (arith, from, low)) in
                  omega (arith, leaves, ranks, of.blocks count most)
            ];
      }

-- ---- new slots, the first of which are live
-- after the live slots, each slot's rank is their number
rank_past_new : (live dead slot : ℕ) → live ≤ slot
    → sum (take slot (replicate live 1 ++ replicate dead 0)) ≡ live
rank_past_new live dead slot past =
    let at_end = new_rank live dead live (omega arith) in
    let most = rank-le (replicate live 1 ++ replicate dead 0) live slot past in
    let all = sum_by-take-le (λ x. x) (replicate live 1 ++ replicate dead 0) slot in
    let whole = new_live live dead in
    omega (arith, at_end, most, all, whole)

module _ (counts : List ℕ) (height live dead : ℕ) (tree : IsTree counts height)
    (first : CountsFirst counts (wide height) live) (len : live + dead ≡ wide height * 64) where
  sums-full : (count : ℕ) → count ≤ wide height → count * 64 ≤ live
      → sums (count_at counts) (wide height) count ≡ count * 64
  sums-full zero low most = refl
  sums-full (suc count) low most =
      let rest = sums-full count (omega (arith, low)) (omega (arith, most)) in
      let here = first.full count (omega (arith, low)) (omega (arith, most)) in
      omega (arith, rest, here)

  sums-past : (count : ℕ) → count ≤ wide height → live ≤ count * 64
      → sums (count_at counts) (wide height) count ≡ live
  sums-past zero low past = omega (arith, past)
  sums-past (suc count) low past =
      elim (cases_lt live (count * 64)) [
        | inl less ↦
            let rest = sums-past count (omega (arith, low)) (omega (arith, less)) in
            let here = first.none count (omega (arith, low)) (omega (arith, less)) in
            omega (arith, rest, here)
        | inr more ↦
            let rest = sums-full count (omega (arith, low)) more in
            let here = first.part count (omega (arith, low)) more (omega (arith, past)) in
            omega (arith, rest, here)
      ]

  new_bits : AreMarks (replicate live 1 ++ replicate dead 0)
  new_bits slot =
      elim (cases_lt slot live) [
        | inl inside ↦ omega (arith, new_mark_live live dead slot inside)
        | inr past ↦ omega (arith, new_mark_dead live dead slot past)
      ]

  -- leaves of which the first are full count the new slots
  pub counted-new : AreCounted (replicate live 1 ++ replicate dead 0) counts height
  counted-new =
      record {
        tree = tree;
        bits = new_bits;
        len =
            length-append (replicate live 1) (replicate dead 0)
            ∙ (λ i. length-replicate {A = ℕ} live 1 i + length-replicate {A = ℕ} dead 0 i)
            ∙ len;
        blocks =
            λ count low. elim (cases_lt live (count * 64)) [
              | inl less ↦
                  let leaves = sums-past count low (omega (arith, less)) in
                  let ranks = rank_past_new live dead (count * 64) (omega (arith, less)) in
                  omega (arith, leaves, ranks)
              | inr more ↦
                  let leaves = sums-full count low more in
                  let ranks = new_rank live dead (count * 64) more in
                  omega (arith, leaves, ranks)
            ];
      }
