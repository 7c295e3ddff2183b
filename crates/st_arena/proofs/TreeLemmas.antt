-- Each inner node counts the sum of its children's counts, so sums over the nodes of a level and
-- of the level below agree.
use Rattle.std.proofs.Common.{◌≡◌, ℕ, zero, suc, ◌+◌, ◌<◌, ◌≤◌, ◌-◌, ◌*◌, List, length, refl, sym}
use Rattle.std.proofs.Common.{ap, ◌∙◌, arith, inl, inr, drop, get_or, set, ◌≢◌, ◌^◌}
use Rattle.std.proofs.lemmas.Bool.{cases_lt, cases_eq}
use Rattle.std.proofs.lemmas.List.{get_or-drop, get_or-set_same, get_or-set_other}
use Rattle.st_arena.specs.Tree.{count_at, sums, wide, AddsUpFrom, IsTree}

-- a level has at least one node
pub wide-positive : (height : ℕ) → 0 < wide height
wide-positive zero = omega arith
wide-positive (suc height) = let below = wide-positive height in omega (arith, below)

-- a lower level has at least as many nodes
pub wide-le : (low high : ℕ) → low ≤ high → wide low ≤ wide high
wide-le zero high le = let some = wide-positive high in omega (arith, some)
wide-le (suc low) zero le = absurd (omega (arith, le))
wide-le (suc low) (suc high) le = let below = wide-le low high (omega (arith, le)) in
    omega (arith, below)

module _ (f : ℕ → ℕ) where
  -- a sum over nodes is the sum over their children
  pub sums-below : (start count end : ℕ) → 0 < start → start + count ≤ end
      → ((node : ℕ) → 0 < node → node < end → f node ≡ f (node + node) + f (suc (node + node)))
      → sums f start count ≡ sums f (start + start) (count + count)
  sums-below start zero end some within inner = refl
  sums-below start (suc count) end some within inner =
      let before : sums f start count ≡ sums f (start + start) (count + count) =
      sums-below start count end some (omega (arith, within)) inner in
      let here : f (start + count) ≡ f ((start + count) + (start + count)) + f
      (suc ((start + count) + (start + count))) =
      inner (start + count) (omega (arith, some)) (omega (arith, within)) in
      let two : suc count + suc count ≡ suc (suc (count + count)) = omega arith in
      let left : (start + count) + (start + count) ≡ (start + start) + (count + count) =
      omega arith in
      let right : suc ((start + count) + (start + count)) ≡ (start + start) + suc (count + count) =
      omega arith in
      let last : f (start + count) ≡ f ((start + start) + (count + count))
      + f ((start + start) + suc (count + count)) =
      rw (← left, ← right) here in
      rw two (omega (arith, before, last))

  -- a sum over `count` nodes that each count at most 64 is at most 64 times `count`
  pub sums-le : (start count end : ℕ) → count ≤ end
      → ((leaf : ℕ) → leaf < end → f (start + leaf) ≤ 64)
      → sums f start count ≤ count * 64
  sums-le start zero end within leaf = omega arith
  sums-le start (suc count) end within leaf =
      let before = sums-le start count end (omega (arith, within)) leaf in
      let here = leaf count (omega (arith, within)) in
      omega (arith, before, here)

-- a node of a level is in the tree
pub within : (counts : List ℕ) (height : ℕ) → IsTree counts height → (level start place : ℕ)
    → level ≤ height
    → start ≡ wide level → place < start → start + place < length counts
within counts height tree level start place low is inside =
    let len : length counts ≡ wide height + wide height = tree.len in
    let le = wide-le level height low in
    omega (arith, len, le, is, inside)

-- the climb's sum stays at most 64 times the number of blocks before
pub rank-fits : (counts : List ℕ) (height : ℕ) → IsTree counts height
    → (size block sum start place : ℕ)
    → size ≡ wide height → block < size
    → sum + sums (count_at counts) start place ≡ sums (count_at counts) size block
    → 0 < place → sum + count_at counts (start + place - 1) ≤ block * 64
rank-fits counts height tree size block sum start place is inside total some =
    let before = place - 1 in
    let one : place ≡ suc before = omega (arith, some) in
    let node : start + place - 1 ≡ start + before = omega (arith, some) in
    let split : sums (count_at counts) start place
    ≡ sums (count_at counts) start before + count_at counts (start + before) =
    ap (sums (count_at counts) start) one in
    let at : count_at counts (start + place - 1) ≡ count_at counts (start + before) =
    ap (count_at counts) node in
    let most : sums (count_at counts) size block ≤ block * 64 =
    rw is (sums-le (count_at counts) (wide height) block (wide height) (omega (arith, is, inside))
    tree.leaves) in
    omega (arith, total, split, at, most)

-- a sum over an even number of nodes of a level is the sum over half as many nodes one level up
pub sums-up : (counts : List ℕ) (height : ℕ) → IsTree counts height → (level start place : ℕ)
    → level < height
    → start ≡ wide (suc level) → place + place ≤ start
    → sums (count_at counts) (wide level) place ≡ sums (count_at counts) start (place + place)
sums-up counts height tree level start place low is inside =
    let two : start ≡ wide level + wide level = is in
    let le : wide level + wide level ≤ wide height = wide-le (suc level) height low in
    rw two
    (sums-below (count_at counts) (wide level) place (wide height) (wide-positive level)
    (omega (arith, two, inside, le))
    tree.inner)

-- the leaves before a node are those before its first child, and its children together count what
-- it counts
pub down : (counts : List ℕ) (height : ℕ) → IsTree counts height → (level start place : ℕ)
    → level < height
    → start ≡ wide level → place < start
    → (sums (count_at counts) start place ≡ sums (count_at counts) (start + start) (place + place))
    × (count_at counts (start + place)
    ≡ count_at counts ((start + start) + (place + place)) + count_at counts
    (suc ((start + start) + (place + place))))
down counts height tree level start place low is inside =
    let le : wide level + wide level ≤ wide height = wide-le (suc level) height low in
    let some = wide-positive level in
    let two : (start + place) + (start + place) ≡ (start + start) + (place + place) = omega arith in
    let here = tree.inner (start + place) (omega (arith, is, some))
    (omega (arith, is, inside, le)) in (
      sums-below (count_at counts) start place (wide height) (omega (arith, is, some))
          (omega (arith, is, inside, le))
          tree.inner,
      rw (← two) here,
    )

-- the node `deep` levels down, by first children only
reach : ℕ → ℕ → ℕ
reach zero node = node
reach (suc deep) node = reach deep (node + node)

reach-add : (deep a b : ℕ) → reach deep (a + b) ≡ reach deep a + reach deep b
unfolding reach
reach-add zero a b = refl
reach-add (suc deep) a b =
    let turn : (a + b) + (a + b) ≡ (a + a) + (b + b) = omega arith in
    ap (reach deep) turn ∙ reach-add deep (a + a) (b + b)

reach-one : (deep : ℕ) → reach deep 1 ≡ wide deep
unfolding reach
reach-one zero = refl
reach-one (suc deep) = let one = reach-one deep in let two = reach-add deep 1 1 in
    omega (arith, one, two)

-- if the leaves count at most 64, and the nodes from `from` on the sums of their children
module _ (counts : List ℕ) (height from : ℕ)
    (adds : AddsUpFrom (count_at counts) from (wide height))
    (leaves : (leaf : ℕ) → leaf < wide height → count_at counts (wide height + leaf) ≤ 64) where
  below-leaf : (node : ℕ) → node < wide height + wide height → wide height ≤ node
      → count_at counts node ≤ 64
  below-leaf node inside past =
      let leaf = node - wide height in
      let is : wide height + leaf ≡ node = omega (arith, past) in
      rw (← is) (leaves leaf (omega (arith, inside, past)))

  -- a node `deep` levels above the leaves counts at most 64 times the number of leaves below it
  bound-by : (deep node : ℕ) → 0 < node → from ≤ node → node < wide height + wide height
      → wide height ≤ reach deep node → count_at counts node ≤ wide deep * 64
  unfolding reach
  bound-by zero node some high inside past = below-leaf node inside past
  bound-by (suc deep) node some high inside past =
      elim (cases_lt node (wide height)) [
        | inl inner ↦
            let sum = adds node some high inner in
            let first =
            bound-by deep (node + node) (omega (arith, some)) (omega (arith, high))
            (omega (arith, inner)) past in
            let right : suc (node + node) ≡ (node + node) + 1 = omega arith in
            let add = ap (reach deep) right ∙ reach-add deep (node + node) 1 in
            let second =
            bound-by deep (suc (node + node)) (omega arith) (omega (arith, high))
            (omega (arith, inner))
            (omega (arith, past, add)) in
            omega (arith, sum, first, second)
        | inr leaf ↦
            let one = below-leaf node inside leaf in
            let most = wide-positive (suc deep) in
            omega (arith, one, most)
      ]

  -- no node from `from` on counts more than the number of all slots
  bound-from : (node : ℕ) → 0 < node → from ≤ node → node < wide height + wide height
      → count_at counts node ≤ wide height * 64
  bound-from node some high inside =
      let before = node - 1 in
      let is : node ≡ 1 + before = omega (arith, some) in
      let add = ap (reach height) is ∙ reach-add height 1 before in
      let one = reach-one height in
      bound-by height node some high inside (omega (arith, add, one))

-- no node counts more than the number of all slots
pub node-bound : (counts : List ℕ) (height : ℕ) → IsTree counts height → (node : ℕ) → 0 < node
    → node < length counts
    → count_at counts node ≤ wide height * 64
node-bound counts height tree node some inside =
    let len : length counts ≡ wide height + wide height = tree.len in
    bound-from counts height 0 (λ node some _ inner. tree.inner node some inner) tree.leaves node
    some (omega arith)
    (omega (arith, inside, len))

-- ---- adding up, from the last inner node down
module _ (old now : List ℕ) (size height : ℕ) (is : size ≡ wide height)
    (len : length now ≡ size + size)
    (leaves : (leaf : ℕ) → leaf < size → count_at old (size + leaf) ≤ 64)
    (stay : drop size now ≡ drop size old) where
  -- the leaves still count at most 64
  leaves_now : (leaf : ℕ) → leaf < wide height → count_at now (wide height + leaf) ≤ 64
  leaves_now leaf inside =
      let same : count_at now (size + leaf) ≡ count_at old (size + leaf) =
      sym (get_or-drop size now leaf 0) ∙ ap (λ l. get_or l leaf 0) stay
      ∙ get_or-drop size old leaf 0 in
      let most = leaves leaf (omega (arith, is, inside)) in
      let least : count_at now (size + leaf) ≤ 64 = omega (arith, same, most) in
      rw (← is) least

  module _ (node : ℕ) (adds : AddsUpFrom (count_at now) (suc node) size) (some : 0 < node)
      (inside : node < size) where
    -- the sum of two children's counts fits a `u64`
    pub children_bound : size ≤ 2 ^ 53
        → count_at now (node + node) + count_at now (suc (node + node)) ≤ 2 ^ 59 + 2 ^ 59
    children_bound few =
        let adds_wide : AddsUpFrom (count_at now) (suc node) (wide height) = rw (← is) adds in
        let first =
        bound-from now height (suc node) adds_wide leaves_now (node + node) (omega (arith, some))
        (omega (arith, some)) (omega (arith, is, inside)) in
        let second =
        bound-from now height (suc node) adds_wide leaves_now (suc (node + node)) (omega arith)
        (omega (arith, some)) (omega (arith, is, inside)) in
        omega (arith, first, second, is, few)

    -- after the node is added up, all nodes from it on count the sums of their children
    pub adds_more : (sum : ℕ) → sum ≡ count_at now (node + node) + count_at now (suc (node + node))
        → AddsUpFrom (count_at (set now node sum)) node size
    adds_more sum sums at at_some high inner =
        elim (cases_eq at node) [
          | inl here ↦
              let written : count_at (set now node sum) at ≡ sum =
              ap (count_at (set now node sum)) here ∙ get_or-set_same now node sum 0
              (omega (arith, len, inside)) in
              let left : count_at (set now node sum) (at + at) ≡ count_at now (node + node) =
              other (at + at) (λ e. absurd (omega (arith, e, here, some)))
              ∙ ap (λ n. count_at now (n + n)) here in
              let right : count_at (set now node sum) (suc (at + at))
              ≡ count_at now (suc (node + node)) =
              other (suc (at + at)) (λ e. absurd (omega (arith, e, here, some)))
              ∙ ap (λ n. count_at now (suc (n + n))) here in
              omega (arith, written, left, right, sums)
          | inr differs ↦
              let here = other at differs in
              let before = adds at at_some (omega (arith, high, differs)) inner in
              let left = other (at + at) (λ e. absurd (omega (arith, e, high, some))) in
              let right = other (suc (at + at)) (λ e. absurd (omega (arith, e, high, some))) in
              omega (arith, here, before, left, right)
        ]
      where
        other : (place : ℕ) → place ≢ node → count_at (set now node sum) place ≡ count_at now place
        other place apart = get_or-set_other now node place sum 0 apart

-- ---- the whole tree
module _ (counts : List ℕ) (height : ℕ) (tree : IsTree counts height) where
  level-total : (level : ℕ) → level ≤ height → sums (count_at counts) (wide level) (wide level)
      ≡ count_at counts 1
  level-total zero low = omega arith
  level-total (suc level) low =
      let le : wide level + wide level ≤ wide height = wide-le (suc level) height low in
      let above = level-total level (omega (arith, low)) in
      let down =
      sums-below (count_at counts) (wide level) (wide level) (wide height) (wide-positive level) le
      tree.inner in
      sym down ∙ above

  -- the root counts the sum of all leaves
  pub root-total : sums (count_at counts) (wide height) (wide height) ≡ count_at counts 1
  root-total = level-total height (omega arith)
