-- What closures return for the items of a list. `answers item answer` says that a call with the
-- item may return the answer.
use Rattle.std.specs.Prelude.{◌≡◌, ℕ, ◌<◌, Bool, true, false, List, Some, slice_get}

module _ {T A : Type 0} (answers : T → A → Type 0) where
  -- each answer that the closure may return for an item of the list is that of the function f
  abbrev pub Computes : (T → A) → List T → Type 0
  Computes f items =
      (place : ℕ) (item : T) (answer : A) → slice_get items place ≡ Some item → answers item answer
      → answer ≡ f item

module _ {T : Type 0} (answers : T → Bool → Type 0) (items : List T) where
  -- the closure may return `answer` for the item at `place`
  pub record IsAnswered (place : ℕ) (answer : Bool) : Type 0 where
    pub item : T
    pub is_there : slice_get items place ≡ Some item
    pub answered : answers item answer

  -- the closure may return true for the item at `place`, and false for each item before it
  pub record IsFirstAnswered (place : ℕ) : Type 0 where
    pub found : IsAnswered place true
    pub before : (earlier : ℕ) → earlier < place → IsAnswered earlier false

-- at most one place of the list has an item that passes the test
abbrev pub PassesOnce : {T : Type 0} → (T → Bool) → List T → Type 0
PassesOnce {T} test items = (i j : ℕ) (x y : T) → slice_get items i ≡ Some x
    → slice_get items j ≡ Some y
    → test x ≡ true → test y ≡ true → i ≡ j
