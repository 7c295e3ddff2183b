-- If a closure computes a test or a function, then what it returned place by place is the test's
-- position in the list, or the list mapped by the function.
use Rattle.std.proofs.Common.{◌≡◌, ℕ, zero, suc, ◌<◌, Bool, true, false, ltb, List, [], ◌∷◌, length}
use Rattle.std.proofs.Common.{get_or, map, Option, Some, None, IfSome, IfNone, slice_get, refl, sym}
use Rattle.std.proofs.Common.{ap, ◌∙◌, arith}
use Rattle.std.specs.List.{AllZip, position}
use Rattle.std.proofs.lemmas.Bool.{lt-ltb, le-ltb, cond-true, cond-false}
use Rattle.std.proofs.lemmas.List.Sums.{position_or_len_is}
use Rattle.std.proofs.lemmas.Option.{get_or_from_slice_get, slice_get-get_or, slice_get_within}
use Rattle.std.proofs.lemmas.Option.{same_Some}
use Rattle.st_arena.specs.Calls.{Computes, IsAnswered, IsFirstAnswered, PassesOnce}
use Rattle.st_arena.specs.Chain.{Turns}

module _ {T : Type 0} (R : T → T → Type 0) where
  -- a relation that holds at each place holds of the lists
  pub AllZip-from_places : (xs ys : List T) → length xs ≡ length ys
      → ((place : ℕ) → place < length xs → Turns R (slice_get xs place) (slice_get ys place))
      → AllZip R xs ys
  AllZip-from_places [] [] same turns = tt
  AllZip-from_places [] (y ∷ ys) same turns = absurd (omega arith)
  AllZip-from_places (x ∷ xs) [] same turns = absurd (omega arith)
  AllZip-from_places (x ∷ xs) (y ∷ ys) same turns =
      let here = turns zero (omega arith) in (
        rw (same_Some x here.before here.was, same_Some y here.after here.is) here.related,
        AllZip-from_places xs ys (omega arith) (λ place inside. turns (suc place) (omega arith)),
      )

  -- if a function computes the answers, they are the list mapped by it
  pub map-from_AllZip : (f : T → T) (xs ys : List T) → Computes R f xs → AllZip R xs ys
      → ys ≡ map f xs
  map-from_AllZip f [] [] computes each = refl
  map-from_AllZip f [] (y ∷ ys) computes each = absurd each
  map-from_AllZip f (x ∷ xs) [] computes each = absurd each
  map-from_AllZip f (x ∷ xs) (y ∷ ys) computes each =
      let first : y ≡ f x = computes zero x y refl each.0 in
      let rest : ys ≡ map f xs = map-from_AllZip f xs ys (λ place. computes (suc place)) each.1 in
      cc

module _ {T : Type 0} (answers : T → Bool → Type 0) (test : T → Bool) (items : List T)
    (computes : Computes answers test items) where
  -- the answer at a place is that of the test
  tests : (place : ℕ) (answer : Bool) (default : T) → IsAnswered answers items place answer
      → test (get_or items place default) ≡ answer
  tests place answer default is =
      ap test (get_or_from_slice_get items place is.item default is.is_there)
      ∙ sym (computes place is.item answer is.is_there is.answered)

  -- the first place that was answered true is the test's position
  position-first : (place : ℕ) → IsFirstAnswered answers items place
      → position test items ≡ Some place
  position-first place is =
      let inside : place < length items =
      slice_get_within items place is.found.item is.found.is_there in
      rw
      (position_or_len_is test items place is.found.item (omega arith)
      (λ earlier before. tests earlier false is.found.item (is.before earlier before))
      (λ _. tests place true is.found.item is.found))
      (cond-true (ltb place (length items)) (Some place) None (lt-ltb place (length items) inside))

  -- if each place was answered false, the test has no position
  position-none : ((place : ℕ) → place < length items → IsAnswered answers items place false)
      → position test items ≡ None
  position-none none = by_items items refl
    where
      by_items : (xs : List T) → items ≡ xs → position test items ≡ None
      by_items [] is = rw is refl
      by_items (x ∷ xs) is =
          rw
          (position_or_len_is test items (length items) x (omega arith)
          (λ earlier before. tests earlier false x (none earlier before))
          (λ past. absurd (omega arith)))
          (cond-false (ltb (length items) (length items)) (Some (length items)) None
          (le-ltb (length items) (length items) (omega arith)))

  -- the result of a search for the first place is the test's position
  pub position-found : (result : Option ℕ) → IfSome result (IsFirstAnswered answers items)
      → IfNone result ((place : ℕ) → place < length items → IsAnswered answers items place false)
      → result ≡ position test items
  position-found None found absent = sym (position-none absent)
  position-found (Some place) found absent = sym (position-first place found)

  -- the result of a search for any place is the test's position, if at most one item passes
  pub position-any : PassesOnce test items → (result : Option ℕ)
      → IfSome result (λ place. IsAnswered answers items place true)
      → IfNone result ((place : ℕ) → place < length items → IsAnswered answers items place false)
      → result ≡ position test items
  position-any once None found absent = sym (position-none absent)
  position-any once (Some place) found absent =
      let inside : place < length items = slice_get_within items place found.item found.is_there in
      let passes = tests place true found.item found in
      let here : test found.item ≡ true =
      sym (computes place found.item true found.is_there found.answered) in
      let alone = λ (k : ℕ) (before : k < place).
      let x = get_or items k found.item in
      let there : slice_get items k ≡ Some x = slice_get-get_or items k found.item (omega arith) in
      elim (test x) as (λ b. test x ≡ b → b ≡ false) [
        | false ↦ λ _. refl
        | true ↦ λ other. let same = once k place x found.item there found.is_there other here in
            absurd (omega arith)
      ] refl in
      sym (rw
      (position_or_len_is test items place found.item (omega arith) alone (λ _. passes))
      (cond-true (ltb place (length items)) (Some place) None (lt-ltb place (length items) inside)))
