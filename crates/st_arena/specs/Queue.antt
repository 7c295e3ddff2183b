-- A queue whose items have slots: an item that leaves the queue leaves its slot empty.
use Rattle.std.specs.Prelude.{◌≡◌, ℕ, zero, suc, List, [], ◌∷◌, ◌++◌, Option, Some, None, replicate}

module _ {T : Type 0} where
  -- the items of the queue, in the order of their slots
  abbrev pub kept : List (Option T) → List T
  kept [] = []
  kept (None ∷ slots) = kept slots
  kept (Some item ∷ slots) = item ∷ kept slots

  -- the marks of the slots: 1 for a live slot, 0 for an empty one
  abbrev pub marks : List (Option T) → List ℕ
  marks [] = []
  marks (None ∷ slots) = 0 ∷ marks slots
  marks (Some item ∷ slots) = 1 ∷ marks slots

  -- how many live slots are before `slot`
  abbrev pub before : List (Option T) → ℕ → ℕ
  before [] slot = 0
  before (o ∷ slots) zero = 0
  before (None ∷ slots) (suc slot) = before slots slot
  before (Some item ∷ slots) (suc slot) = suc (before slots slot)

  -- the ranks start with the marks of the slots, and any further marks are 0
  pub record AreRanksOf (ranks : List ℕ) (slots : List (Option T)) : Type 0 where
    pub spare : ℕ
    pub are : ranks ≡ marks slots ++ replicate spare 0
