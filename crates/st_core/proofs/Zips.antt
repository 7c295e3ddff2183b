-- A fact about two lists place by place, or about all pairs of one list, stays true if each list
-- loses the element at one place or gains one at the end, by induction over the lists.
use Rattle.std.proofs.Common.{◌≡◌, ℕ, ◌+◌, ◌<◌, ◌≤◌, ◌≢◌, zero, suc, List, [], ◌∷◌, ◌++◌, length}
use Rattle.std.proofs.Common.{take, drop, map, get_or, Some, All, AllPairs, refl, sym, ◌∙◌, ap}
use Rattle.std.proofs.Common.{subst, arith, inl, inr}
use Rattle.std.specs.List.{AllZip, slice_get, remove}
use Rattle.std.proofs.lemmas.Bool.{cases_lt}
use Rattle.std.proofs.lemmas.List.{take_all, drop_all, append-nil, drop-drop}
use Rattle.std.proofs.lemmas.List.Edits.{get_or-remove_below, get_or-remove_above, length-remove}
use Rattle.std.proofs.lemmas.List.Quantifiers.{all_pairs_remove}
use Rattle.std.proofs.lemmas.Option.{same_Some, none-some, slice_get_within, get_or_from_slice_get}
use Rattle.st_core.specs.Pairs.{pairs}

-- TWO LISTS PLACE BY PLACE

pub AllZip_push : {A B : Type 0} (R : A → B → Type 0) (xs : List A) (ys : List B) (x : A) (y : B)
    → AllZip R xs ys
    → R x y → AllZip R (xs ++ x ∷ []) (ys ++ y ∷ [])
AllZip_push R [] [] x y all one = (one, tt)
AllZip_push R (a ∷ xs) (b ∷ ys) x y all one = (all.0, AllZip_push R xs ys x y all.1 one)
AllZip_push R xs ys x y all one = absurd all

pub AllZip_remove : {A B : Type 0} (R : A → B → Type 0) (xs : List A) (ys : List B) (k : ℕ)
    → AllZip R xs ys
    → AllZip R (remove xs k) (remove ys k)
AllZip_remove R [] [] zero all = tt
AllZip_remove R [] [] (suc k) all = tt
AllZip_remove R [] (b ∷ ys) k all = absurd all
AllZip_remove R (a ∷ xs) [] k all = absurd all
AllZip_remove R (a ∷ xs) (b ∷ ys) zero all = all.1
AllZip_remove R (a ∷ xs) (b ∷ ys) (suc k) all = (all.0, AllZip_remove R xs ys k all.1)

pub AllZip_map : {A B : Type 0} (R : A → B → Type 0) (f : B → B)
    → ((x : A) (y : B) → R x y → R x (f y)) → (xs : List A)
    (ys : List B) → AllZip R xs ys → AllZip R xs (map f ys)
AllZip_map R f keeps [] [] all = tt
AllZip_map R f keeps (a ∷ xs) (b ∷ ys) all = (keeps a b all.0, AllZip_map R f keeps xs ys all.1)
AllZip_map R f keeps xs ys all = absurd all

pub AllZip_at : {A B : Type 0} (R : A → B → Type 0) (xs : List A) (ys : List B) (k : ℕ) (x : A)
    (y : B) → AllZip R xs ys
    → slice_get xs k ≡ Some x → slice_get ys k ≡ Some y → R x y
AllZip_at R [] ys k x y all at there = absurd (none-some x at)
AllZip_at R (a ∷ xs) [] k x y all at there = absurd all
AllZip_at R (a ∷ xs) (b ∷ ys) zero x y all at there =
    subst (λ z. R z y) (same_Some a x at) (subst (R a) (same_Some b y there) all.0)
AllZip_at R (a ∷ xs) (b ∷ ys) (suc k) x y all at there = AllZip_at R xs ys k x y all.1 at there

pub AllZip_length : {A B : Type 0} (R : A → B → Type 0) (xs : List A) (ys : List B) → AllZip R xs ys
    → length xs ≡ length ys
AllZip_length R [] [] all = refl
AllZip_length R (a ∷ xs) (b ∷ ys) all = ap suc (AllZip_length R xs ys all.1)
AllZip_length R xs ys all = absurd all

-- ALL PAIRS OF ONE LIST

pub remove_past : {A : Type 0} (xs : List A) (k : ℕ) → length xs ≤ k → xs ≡ remove xs k
remove_past xs k past =
    sym (append-nil xs)
    ∙ ap (λ ys. ys ++ []) (sym (take_all k xs past))
    ∙ ap (λ ys. take k xs ++ ys) (sym (drop_all (suc k) xs (omega arith)))

pub AllPairs_remove : {A : Type 0} (R : A → A → Type 0) (xs : List A) (k : ℕ) → AllPairs R xs
    → AllPairs R (remove xs k)
AllPairs_remove R xs k pairs =
    elim (cases_lt k (length xs)) [
      | inl within ↦ all_pairs_remove R xs k within pairs
      | inr past ↦ subst (AllPairs R) (remove_past xs k past) pairs
    ]

pub AllPairs_cons : {A : Type 0} (R : A → A → Type 0) (x : A) (xs : List A) → All (R x) xs
    → AllPairs R xs
    → AllPairs R (x ∷ xs)
AllPairs_cons R x xs all pairs zero zero d below within = absurd (omega arith)
AllPairs_cons R x xs all pairs zero (suc j) d below within = all j d (omega arith)
AllPairs_cons R x xs all pairs (suc i) zero d below within = absurd (omega arith)
AllPairs_cons R x xs all pairs (suc i) (suc j) d below within =
    pairs i j d (omega arith) (omega arith)

-- in a list of distinct numbers, the one at k is nowhere else
pub removed_once : (xs : List ℕ) (k i : ℕ) → AllPairs (λ a b. a ≢ b) xs → slice_get xs k ≡ Some i
    → All (λ j. i ≢ j) (remove xs k)
removed_once xs k i once at m d below =
    let within : k < length xs = slice_get_within xs k i at in
    let size = length-remove xs k within in
    let is : get_or xs k d ≡ i = get_or_from_slice_get xs k i d at in
    elim (cases_lt m k) [
      | inl less ↦ λ same. once m k d less within
          (sym (get_or-remove_below xs k d m less within) ∙ sym same ∙ sym is)
      | inr more ↦ λ same.
          once k (m + 1) d (omega arith) (omega arith)
          (is ∙ same ∙ get_or-remove_above xs k d m more within)
    ]

-- THE REST OF A LIST

-- the rest from n on begins with the element at n
pub drop_first : {A : Type 0} (n : ℕ) (xs : List A) (x : A) (rest : List A) → drop n xs ≡ x ∷ rest
    → slice_get xs n ≡ Some x
drop_first zero xs x rest h = ap (λ ys. slice_get ys 0) h
drop_first (suc n) [] x rest h = absurd (cc)
drop_first (suc n) (y ∷ ys) x rest h = drop_first n ys x rest h

pub drop_rest : {A : Type 0} (n : ℕ) (xs : List A) (x : A) (rest : List A) → drop n xs ≡ x ∷ rest
    → drop (n + 1) xs ≡ rest
drop_rest n xs x rest h = sym (drop-drop 1 n xs) ∙ ap (drop 1) h
