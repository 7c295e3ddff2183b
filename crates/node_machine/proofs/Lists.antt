-- Facts about the members of lists.
use Rattle.std.proofs.Common.{◌≡◌, ℕ, ◌+◌, ◌⊎◌, zero, suc, List, [], ◌∷◌, ◌++◌, length, Some, ◌≤◌}
use Rattle.std.proofs.Common.{take, inl, inr, refl, arith, ap, subst}
use Rattle.std.specs.List.{AllByRecursion, slice_get}
use Rattle.std.proofs.lemmas.Option.{same_Some, none-some}
use Rattle.node_machine.specs.Premises.{IsAmong}

pub all_of : {A : Type 0} (P : A → Type 0) (xs : List A) (x : A) → AllByRecursion P xs
    → IsAmong xs x → P x
all_of P [] x all is = absurd is
all_of P (y ∷ ys) x all (inl is) = subst P is all.0
all_of P (y ∷ ys) x all (inr is) = all_of P ys x all.1 is

pub all_append : {A : Type 0} (P : A → Type 0) (xs ys : List A) → AllByRecursion P xs
    → AllByRecursion P ys
    → AllByRecursion P (xs ++ ys)
all_append P [] ys all more = more
all_append P (x ∷ xs) ys all more = (all.0, all_append P xs ys all.1 more)

pub all_change : {A : Type 0} (P Q : A → Type 0) → ((x : A) → P x → Q x) → (xs : List A)
    → AllByRecursion P xs
    → AllByRecursion Q xs
all_change P Q change [] all = tt
all_change P Q change (x ∷ xs) all = (change x all.0, all_change P Q change xs all.1)

pub among_front : {A : Type 0} (xs ys : List A) (x : A) → IsAmong xs x → IsAmong (xs ++ ys) x
among_front [] ys x is = absurd is
among_front (z ∷ xs) ys x (inl is) = inl is
among_front (z ∷ xs) ys x (inr is) = inr (among_front xs ys x is)

pub among_back : {A : Type 0} (xs ys : List A) (x : A) → IsAmong ys x → IsAmong (xs ++ ys) x
among_back [] ys x is = is
among_back (z ∷ xs) ys x is = inr (among_back xs ys x is)

pub among_parts : {A : Type 0} (xs ys : List A) (x : A) → IsAmong (xs ++ ys) x
    → IsAmong xs x ⊎ IsAmong ys x
among_parts [] ys x is = inr is
among_parts (z ∷ xs) ys x (inl is) = inl (inl is)
among_parts (z ∷ xs) ys x (inr is) = elim (among_parts xs ys x is) [
  | inl front ↦ inl (inr front)
  | inr back ↦ inr back
]

pub among_at : {A : Type 0} (xs : List A) (k : ℕ) (x : A) → slice_get xs k ≡ Some x → IsAmong xs x
among_at [] k x at = absurd (none-some x at)
among_at (y ∷ xs) zero x at = inl (same_Some y x at)
among_at (y ∷ xs) (suc k) x at = inr (among_at xs k x at)

pub length_push : {A : Type 0} (xs : List A) (x : A) → length (xs ++ x ∷ []) ≡ suc (length xs)
length_push [] x = refl
length_push (y ∷ xs) x = ap suc (length_push xs x)

pub length_more : {A : Type 0} (xs more : List A) → length xs ≤ length (xs ++ more)
length_more [] more = omega arith
length_more (y ∷ xs) more = let rest = length_more xs more in omega arith

-- P holds of each item with its number, from n on, and the item of the other list at its place
abbrev pub AllAlong : {A B : Type 0} → (ℕ → A → B → Type 0) → ℕ → List A → List B → Type 0
AllAlong P n [] ys = Unit {0}
AllAlong P n (x ∷ xs) [] = Unit {0}
AllAlong P n (x ∷ xs) (y ∷ ys) = P n x y × AllAlong P (suc n) xs ys

pub along_at : {A B : Type 0} (P : ℕ → A → B → Type 0) (n : ℕ) (xs : List A) (ys : List B) (i : ℕ)
    (x : A) (y : B)
    → AllAlong P n xs ys → slice_get xs i ≡ Some x → slice_get ys i ≡ Some y → P (n + i) x y
along_at P n [] ys i x y all at is = absurd (none-some x at)
along_at P n (a ∷ xs) [] i x y all at is = absurd (none-some y is)
along_at P n (a ∷ xs) (b ∷ ys) zero x y all at is =
    let same : n ≡ n + 0 = omega arith in
    subst (λ k. P k x y) same
    (subst (P n x) (same_Some b y is) (subst (λ z. P n z b) (same_Some a x at) all.0))
along_at P n (a ∷ xs) (b ∷ ys) (suc i) x y all at is =
    let same : suc n + i ≡ n + suc i = omega arith in
    subst (λ k. P k x y) same (along_at P (suc n) xs ys i x y all.1 at is)

pub take_front : {A : Type 0} (xs rest : List A) → take (length xs) (xs ++ rest) ≡ xs
take_front [] rest = refl
take_front (y ∷ xs) rest = ap (λ ys. y ∷ ys) (take_front xs rest)

pub item_behind : {A : Type 0} (front rest : List A) (x : A)
    → slice_get (front ++ (x ∷ rest)) (length front) ≡ Some x
item_behind [] rest x = refl
item_behind (y ∷ front) rest x = item_behind front rest x
