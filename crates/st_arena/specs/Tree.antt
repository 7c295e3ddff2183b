-- A perfect binary tree of counts in one list: node 1 is the root, and node k has the children 2k
-- and 2k + 1. Each leaf counts the live slots of one block.
use Rattle.std.specs.Prelude.{◌≡◌, ◌≢◌, ℕ, zero, suc, ◌+◌, ◌<◌, ◌≤◌, ◌^◌, List, length}
use Rattle.std.specs.Prelude.{slice_index_or}

-- the count of a node
abbrev pub count_at : List ℕ → ℕ → ℕ
count_at counts node = slice_index_or counts node 0

-- the sum of the counts of `count` nodes in a row, from the node `from` on
abbrev pub sums : (ℕ → ℕ) → ℕ → ℕ → ℕ
sums f from zero = 0
sums f from (suc count) = sums f from count + f (from + count)

-- how many nodes are on the level at a depth, which is also the number of the level's first node
abbrev pub wide : ℕ → ℕ
wide zero = 1
wide (suc height) = wide height + wide height

-- each inner node from `from` on counts the sum of its children's counts; the leaves begin at
-- `leaves`
abbrev pub AddsUpFrom : (ℕ → ℕ) → ℕ → ℕ → Type 0
AddsUpFrom f from leaves =
    (node : ℕ) → 0 < node → from ≤ node → node < leaves
    → f node ≡ f (node + node) + f (suc (node + node))

-- the counts are a tree: the nodes of all levels and an unused node 0, and each inner node counts
-- the sum of its children's counts. A leaf counts at most the 64 slots of a block, and there are
-- few enough leaves for each count to fit its type
pub record IsTree (counts : List ℕ) (height : ℕ) : Type 0 where
  pub len : length counts ≡ wide (suc height)
  pub inner : (node : ℕ) → 0 < node → node < wide height
      → count_at counts node ≡ count_at counts (node + node) + count_at counts (suc (node + node))
  pub leaves : (leaf : ℕ) → leaf < wide height → count_at counts (wide height + leaf) ≤ 64
  pub few : wide height ≤ 2 ^ 53

-- one leaf counts one less than before, and the others count the same as before
pub record CountsLess (old new : List ℕ) (size leaf : ℕ) : Type 0 where
  pub less : suc (count_at new (size + leaf)) ≡ count_at old (size + leaf)
  pub others : (other : ℕ) → other < size → other ≢ leaf
      → count_at new (size + other) ≡ count_at old (size + other)

-- each inner node counts the sum of its children's counts, except the node `but`, which counts one
-- more
pub record IsAllBut (f : ℕ → ℕ) (height but : ℕ) : Type 0 where
  pub inner : (node : ℕ) → 0 < node → node < wide height → node ≢ but
      → f node ≡ f (node + node) + f (suc (node + node))
  -- if `but` is an inner node
  pub more : 0 < but → but < wide height → f but ≡ suc (f (but + but) + f (suc (but + but)))
  -- if `but` is a leaf, it counts at least one slot, since it is still to be counted down
  pub some : wide height ≤ but → 0 < f but

-- while a climb counts down: `leaf` counts one less after the climb has passed it, and each other
-- leaf counts the same as before
pub record IsStill (old now : ℕ → ℕ) (size leaf node : ℕ) : Type 0 where
  pub less : node < size → suc (now (size + leaf)) ≡ old (size + leaf)
  pub same : size ≤ node → now (size + leaf) ≡ old (size + leaf)
  pub others : (other : ℕ) → other < size → other ≢ leaf → now (size + other) ≡ old (size + other)
  pub here : size ≤ node → node ≡ size + leaf

-- one leaf counts one more than before, and the others count the same as before
pub record CountsMore (old new : List ℕ) (size leaf : ℕ) : Type 0 where
  pub more : count_at new (size + leaf) ≡ suc (count_at old (size + leaf))
  pub others : (other : ℕ) → other < size → other ≢ leaf
      → count_at new (size + other) ≡ count_at old (size + other)

-- each inner node counts the sum of its children's counts, except the node `but`, which counts one
-- less
pub record IsShort (f : ℕ → ℕ) (height but : ℕ) : Type 0 where
  pub inner : (node : ℕ) → 0 < node → node < wide height → node ≢ but
      → f node ≡ f (node + node) + f (suc (node + node))
  pub less : 0 < but → but < wide height → suc (f but) ≡ f (but + but) + f (suc (but + but))
  -- if `but` is a leaf, its block isn't full, since it is still to be counted up
  pub room : wide height ≤ but → f but < 64

-- while a climb counts up: `leaf` counts one more after the climb has passed it, and each other
-- leaf, and each node from `node` up, counts the same as before
pub record IsLifted (old now : ℕ → ℕ) (size leaf node : ℕ) : Type 0 where
  pub more : node < size → now (size + leaf) ≡ suc (old (size + leaf))
  pub others : (other : ℕ) → other < size → other ≢ leaf → now (size + other) ≡ old (size + other)
  pub here : size ≤ node → node ≡ size + leaf
  pub same : (above : ℕ) → above ≤ node → now above ≡ old above
