-- A fact about each element stays true of lists that are joined, cut and moved, by induction on
-- the list.
use Rattle.std.proofs.Common.{◌≡◌, ℕ, suc, Bool, false, List, [], ◌∷◌, ◌++◌, take}
use Rattle.std.specs.List.{AllByRecursion, IsDistinct}
use Rattle.std.specs.List.Sorted.{IsPermutation}
use Rattle.std.proofs.lemmas.List.Elements.{All-from_recursion, recursion_from_All}
use Rattle.std.proofs.lemmas.List.Sorted.{All-permutation}

module _ {A : Type 0} (P : A → Type 0) where
  pub all_append : (xs ys : List A) → AllByRecursion P xs → AllByRecursion P ys
      → AllByRecursion P (xs ++ ys)
  all_append [] ys a b = b
  all_append (x ∷ xs) ys a b = (a.0, all_append xs ys a.1 b)

  pub all_left : (xs ys : List A) → AllByRecursion P (xs ++ ys) → AllByRecursion P xs
  all_left [] ys h = tt
  all_left (x ∷ xs) ys h = (h.0, all_left xs ys h.1)

  pub all_right : (xs ys : List A) → AllByRecursion P (xs ++ ys) → AllByRecursion P ys
  all_right [] ys h = h
  all_right (x ∷ xs) ys h = all_right xs ys h.1

  pub all_take : (n : ℕ) (xs : List A) → AllByRecursion P xs → AllByRecursion P (take n xs)
  all_take (suc n) (x ∷ xs) h = (h.0, all_take n xs h.1)
  all_take n xs h = tt

  pub all_moved : (xs ys : List A) → IsPermutation xs ys → AllByRecursion P xs → AllByRecursion P ys
  all_moved xs ys moved h =
      recursion_from_All P ys (All-permutation P xs ys moved (All-from_recursion P xs h))

pub all_mapped : {A : Type 0} (P Q : A → Type 0) (xs : List A) → ((x : A) → P x → Q x)
    → AllByRecursion P xs → AllByRecursion Q xs
all_mapped P Q [] f h = tt
all_mapped P Q (x ∷ xs) f h = (f x h.0, all_mapped P Q xs f h.1)

pub all_both : {A : Type 0} (P Q : A → Type 0) (xs : List A)
    → AllByRecursion P xs → AllByRecursion Q xs → AllByRecursion (λ x. P x × Q x) xs
all_both P Q [] a b = tt
all_both P Q (x ∷ xs) a b = ((a.0, b.0), all_both P Q xs a.1 b.1)

-- R holds of each x in xs with each y in ys, if it follows from P of x and Q of y
pub all_crossed : {A : Type 0} (P Q : A → Type 0) (R : A → A → Type 0) (xs ys : List A)
    → ((x y : A) → P x → Q y → R x y) → AllByRecursion P xs → AllByRecursion Q ys
    → AllByRecursion (λ x. AllByRecursion (R x) ys) xs
all_crossed P Q R [] ys f a b = tt
all_crossed P Q R (x ∷ xs) ys f a b =
    (all_mapped Q (R x) ys (λ y q. f x y a.0 q) b, all_crossed P Q R xs ys f a.1 b)

pub distinct_append : {A : Type 0} (same : A → A → Bool) (xs ys : List A) → IsDistinct same xs
    → IsDistinct same ys → AllByRecursion (λ x. AllByRecursion (λ y. same x y ≡ false) ys) xs
    → IsDistinct same (xs ++ ys)
unfolding IsDistinct
distinct_append same [] ys a b c = b
distinct_append same (x ∷ xs) ys a b c =
    (all_append (λ y. same x y ≡ false) xs ys a.0 c.0, distinct_append same xs ys a.1 b c.1)
