-- A test of a slot's item asks no other slot, so a new or emptied slot changes the test's result
-- only there.
use Rattle.std.proofs.Common.{◌≡◌, ℕ, zero, suc, ◌<◌, Bool, true, false, not, ◌==◌, ◌&&◌, ◌||◌}
use Rattle.std.proofs.Common.{List, [], ◌∷◌, ◌++◌, length, set, slice_get, Option, Some, None, refl}
use Rattle.std.proofs.Common.{ap, arith}
use Rattle.std.proofs.lemmas.Bool.Decides.{nat_tests}
use Rattle.std.proofs.lemmas.Option.{same_Some}
use Rattle.st_mail.specs.Slots.{item_at, passes}

-- NUMBERS AND BOOLEANS

same_suc : (a b : ℕ) → (suc a == suc b) ≡ (a == b)
same_suc a b = grind (arith, nat_tests)

zero_suc : (b : ℕ) → (0 == suc b) ≡ false
zero_suc b = grind (arith, nat_tests)

suc_zero : (b : ℕ) → (suc b == 0) ≡ false
suc_zero b = grind (arith, nat_tests)

alone : (b : Bool) → b ≡ (b && true || false)
alone true = refl
alone false = refl

neither : (b c : Bool) → c ≡ (b && false || c)
neither true c = refl
neither false c = refl

module _ {T : Type 0} where
  -- ITEMS

  -- the slot has an item
  pub record HasItem (slots : List (Option T)) (slot : ℕ) : Type 0 where
    pub item : T
    pub is : item_at slots slot ≡ Some item

  pub inside : (slots : List (Option T)) (slot : ℕ) (item : T) → item_at slots slot ≡ Some item
      → slot < length slots
  inside [] slot item is = absurd (cc)
  inside (o ∷ slots) zero item is = omega arith
  inside (o ∷ slots) (suc slot) item is = omega (arith, inside slots slot item is)

  -- a slot's item is what the list has at the slot
  pub item-get : (slots : List (Option T)) (slot : ℕ) (item : T) → item_at slots slot ≡ Some item
      → slice_get slots slot ≡ Some (Some item)
  item-get [] slot item is = absurd (cc)
  item-get (o ∷ slots) zero item is = ap (λ x. Some x) is
  item-get (o ∷ slots) (suc slot) item is = item-get slots slot item is

  pub get-item : (slots : List (Option T)) (slot : ℕ) (item : T)
      → slice_get slots slot ≡ Some (Some item)
      → item_at slots slot ≡ Some item
  get-item [] slot item is = absurd (cc)
  get-item (o ∷ slots) zero item is = same_Some o (Some item) is
  get-item (o ∷ slots) (suc slot) item is = get-item slots slot item is

  -- TESTS

  pub passing : (test : T → Bool) (slots : List (Option T)) (slot : ℕ)
      → passes test (item_at slots slot) ≡ true
      → HasItem slots slot
  passing test slots slot h = by (item_at slots slot) refl h
    where
      by : (o : Option T) → item_at slots slot ≡ o → passes test o ≡ true → HasItem slots slot
      by None is h = absurd (cc)
      by (Some item) is h = record { item = item; is = is }

  -- after a push, the new slot passes if its item does, and the other slots as before
  pub passes-push : (test : T → Bool) (slots : List (Option T)) (item : T) (s : ℕ)
      → passes test (item_at (slots ++ Some item ∷ []) s)
      ≡ (test item && length slots == s || passes test (item_at slots s))
  passes-push test [] item zero = alone (test item)
  passes-push test [] item (suc s) = rw zero_suc (neither (test item) false)
  passes-push test (o ∷ slots) item zero = rw suc_zero (neither (test item) (passes test o))
  passes-push test (o ∷ slots) item (suc s) = rw same_suc (passes-push test slots item s)

  -- after a slot is emptied, it doesn't pass, and the other slots pass as before
  pub passes-set : (test : T → Bool) (slots : List (Option T)) (slot s : ℕ)
      → passes test (item_at (set slots slot None) s)
      ≡ (not (slot == s) && passes test (item_at slots s))
  passes-set test [] slot s = by (slot == s)
    where
      by : (b : Bool) → false ≡ (not b && false)
      by true = refl
      by false = refl
  passes-set test (o ∷ slots) zero zero = refl
  passes-set test (o ∷ slots) zero (suc s) = rw zero_suc refl
  passes-set test (o ∷ slots) (suc slot) zero = rw suc_zero refl
  passes-set test (o ∷ slots) (suc slot) (suc s) = rw same_suc (passes-set test slots slot s)
