-- The slots of a queue.
use Rattle.std.specs.Prelude.{ℕ, Bool, false, List, Option, Some, None, slice_index_or}

module _ {T : Type 0} where
  -- the item in a slot that was given out and isn't empty
  abbrev pub item_at : List (Option T) → ℕ → Option T
  item_at slots slot = slice_index_or slots slot None

  -- whether there is an item, and it passes the test
  abbrev pub passes : (T → Bool) → Option T → Bool
  passes test None = false
  passes test (Some item) = test item
