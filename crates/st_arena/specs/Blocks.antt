-- The marks of all slots in blocks of 64, and a tree whose leaves each count the live slots of a
-- block.
use Rattle.std.specs.Prelude.{◌≡◌, ℕ, ◌+◌, ◌-◌, ◌*◌, ◌≤◌, ◌<◌, List, length, take, slice_index_or}
use Rattle.std.specs.List.{sum}
use Rattle.st_arena.specs.Tree.{count_at, sums, wide, IsTree}

-- each mark is 1 or 0
abbrev pub AreMarks : List ℕ → Type 0
AreMarks marks = (slot : ℕ) → slice_index_or marks slot 0 ≤ 1

-- there are 64 marks for each leaf, and the counts of any number of first leaves add up to the
-- live slots of their blocks
pub record AreCounted (marks counts : List ℕ) (height : ℕ) : Type 0 where
  pub tree : IsTree counts height
  pub bits : AreMarks marks
  pub len : length marks ≡ wide height * 64
  pub blocks : (count : ℕ) → count ≤ wide height
      → sums (count_at counts) (wide height) count ≡ sum (take (count * 64) marks)

-- the leaves count the live slots of their blocks if the first `live` slots are live and all
-- others dead
pub record CountsFirst (counts : List ℕ) (size live : ℕ) : Type 0 where
  pub full : (block : ℕ) → block < size → block * 64 + 64 ≤ live
      → count_at counts (size + block) ≡ 64
  pub part : (block : ℕ) → block < size → block * 64 ≤ live → live ≤ block * 64 + 64
      → count_at counts (size + block) ≡ live - block * 64
  pub none : (block : ℕ) → block < size → live ≤ block * 64 → count_at counts (size + block) ≡ 0
