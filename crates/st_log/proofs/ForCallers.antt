-- A binary search by a key ends at the place at which a search of the keys ends, since both make
-- the same comparisons.
use Rattle.std.proofs.Common.{◌≡◌, ℕ, zero, suc, ◌<◌, List, [], ◌∷◌, length, map, get_or, arith}
use Rattle.std.proofs.Common.{Result, Ok, Err}
use Rattle.std.specs.List.Sorted.{IsBinarySearchResult, IsSearchInRange}
use Rattle.std.specs.declared.cmp.Ordering.{Ordering}
use Rattle.std.specs.declared.cmp.Ordering.TheVariants.{Less, Equal, Greater}
use Rattle.std.proofs.lemmas.List.{get_or-map, length-map}

holds_key : {X K : Type 0} (key : X → K) (P : K → Type 0) (xs : List X) (i : ℕ)
    → i < length xs → ((d : X) → P (key (get_or xs i d))) → (d : K) → P (get_or (map key xs) i d)
holds_key key P [] i within holds d = absurd (omega arith)
holds_key key P (x ∷ xs) zero within holds d = holds x
holds_key key P (x ∷ xs) (suc i) within holds d = holds_key key P xs i (omega arith) holds d

-- the result of a binary search by a key is a result of the search in the list of keys
pub search_keys : {X K : Type 0} (key : X → K) (order : K → Ordering) (xs : List X) (r : Result ℕ ℕ)
    → IsSearchInRange r (length xs) → IsBinarySearchResult (λ x. order (key x)) xs r
    → IsBinarySearchResult order (map key xs) r
search_keys key order xs (Ok i) within found =
    holds_key key (λ k. order k ≡ Equal) xs i within found
search_keys key order xs (Err i) within found = λ up.
    let long : length (map key xs) ≡ length xs = length-map xs key in
    let parts = found (λ a b d le below.
    let at_a = get_or-map key xs a d (key d) (omega arith) in
    let at_b = get_or-map key xs b d (key d) below in
    rw (← at_a, ← at_b) (up a b (key d) le (omega arith))) in (
      λ k d low below. holds_key key (λ y. order y ≡ Less) xs k (omega arith)
          (λ e. parts.0 k e low below) d,
      λ k d low below. holds_key key (λ y. order y ≡ Greater) xs k (omega arith)
          (λ e. parts.1 k e low (omega arith)) d,
    )
