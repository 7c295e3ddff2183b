-- If one list changes, all others stay, since no two lists share a node. So a fact about all lists
-- follows from one about the changed list and one about slots that did not change.
use Rattle.std.proofs.Common.{◌≡◌, ◌≢◌, ℕ, zero, suc, ◌+◌, ◌<◌, ◌≤◌, cond, eqb, List, [], ◌∷◌}
use Rattle.std.proofs.Common.{length, get_or}
use Rattle.std.proofs.Common.{map, set, Option, sum_by, refl, sym, ap, ◌∙◌, inl, inr, arith}
use Rattle.std.proofs.lemmas.Bool.{cases_lt, cases_eq, eq-eqb, ne_eqb, cond-true, cond-false}
use Rattle.std.proofs.lemmas.List.{get_or-set_same, get_or-set_other, get_or-map, get_or-replicate}
use Rattle.std.proofs.lemmas.List.{length-replicate, get_or_past}
use Rattle.std.proofs.lemmas.List.Sums.{sum_by-set, sum_by-cons}
use Rattle.std.specs.Prelude.{replicate}
use Rattle.st_arena.specs.declared.node.Node.{Node}
use Rattle.st_arena.specs.declared.node.Ends.{Ends}
use Rattle.st_arena.specs.Chain.{len_of, no_ends, ends_at, values_of, IsChain, AreChains}
use Rattle.st_arena.proofs.ChainLemmas.{SameAt, chain_stays, items_stay}

-- two functions that agree on each element of a list map it alike
map_same : {A B : Type 0} (f g : A → B) (xs : List A) (default : A)
    → ((i : ℕ) → i < length xs → g (get_or xs i default) ≡ f (get_or xs i default))
    → map g xs ≡ map f xs
map_same f g [] default same = refl
map_same f g (x ∷ xs) default same =
    let first : g x ≡ f x = same zero (omega arith) in
    let rest : map g xs ≡ map f xs =
    map_same f g xs default (λ i within. same (suc i) (omega arith)) in
    cc

-- if two functions agree except at a written element, the lists mapped by them differ only there
pub map-set_one : {A B : Type 0} (f g : A → B) (xs : List A) (at : ℕ) (x default : A) (y : B)
    → ((i : ℕ) → i ≢ at → i < length xs → g (get_or xs i default) ≡ f (get_or xs i default))
    → g x ≡ y
    → map g (set xs at x) ≡ set (map f xs) at y
map-set_one f g [] at x default y same here = refl
map-set_one f g (z ∷ zs) zero x default y same here =
    let rest : map g zs ≡ map f zs =
    map_same f g zs default (λ i within. same (suc i) (omega arith) (omega arith)) in
    cc
map-set_one f g (z ∷ zs) (suc at) x default y same here =
    let first : g z ≡ f z = same zero (omega arith) (omega arith) in
    let rest : map g (set zs at x) ≡ set (map f zs) at y =
    map-set_one f g zs at x default y
    (λ i differs within. same (suc i) (λ e. differs (omega (arith, e))) (omega arith)) here in
    cc

-- the keys of all lists, with `row` as the keys of one list
with_row : (ℕ → ℕ → ℕ) → ℕ → (ℕ → ℕ) → ℕ → ℕ → ℕ
with_row key list row other = cond (eqb other list) row (key other)

-- for that list they are `row`
with_row-same : (key : ℕ → ℕ → ℕ) (list : ℕ) (row : ℕ → ℕ) → with_row key list row list ≡ row
unfolding with_row
with_row-same key list row = cond-true (eqb list list) row (key list) (eq-eqb list list refl)

-- for any other list they are the old keys
with_row-other : (key : ℕ → ℕ → ℕ) (list : ℕ) (row : ℕ → ℕ) (other : ℕ) → other ≢ list
    → with_row key list row other ≡ key other
unfolding with_row
with_row-other key list row other differs =
    cond-false (eqb other list) row (key other) (ne_eqb other list differs)

module _ {T : Type 0} (old new : ℕ → Option (Node T)) (ends : List Ends) (count capacity : ℕ)
    (sound : AreChains old ends count capacity) (list : ℕ) (in_range : list < length ends)
    (after : Ends) where
  -- if one list's chain becomes another, and the nodes of all other lists stay, the arena stays
  -- sound
  pub sound_with : (row : ℕ → ℕ) (new_count new_capacity : ℕ) → IsChain new after row
      → ((other place : ℕ) → other ≢ list → place < len_of (ends_at ends other)
      → SameAt old new (sound.key other place))
      → ((other place there : ℕ) → other ≢ list → place < after.len
      → there < len_of (ends_at ends other)
      → row place ≢ sound.key other there)
      → after.len + count ≡ len_of (ends_at ends list) + new_count → new_count ≤ new_capacity
      → AreChains new (set ends list after) new_count new_capacity
  sound_with row new_count new_capacity chain same apart total within =
      record {
        key = with_row sound.key list row;
        chain = λ other.
            elim (cases_eq other list) [
              | inl is ↦ rw (is, here, with_row-same sound.key list row) chain
              | inr differs ↦
                  rw (there other differs, with_row-other sound.key list row other differs)
                  (chain_stays old new (ends_at ends other) (sound.key other) (sound.chain other)
                  (λ place inside. same other place differs inside))
            ];
        disjoint = λ one other place other_place differs inside other_inside.
            elim (cases_eq one list) [
              | inl one_is ↦
                  let other_differs : other ≢ list = λ e. differs (one_is ∙ sym e) in
                  let inside_row : place < after.len = rw (one_is, here) at inside in
                  let inside_other : other_place < len_of (ends_at ends other) =
                  rw (there other other_differs) at other_inside in
                  rw (
                    one_is,
                    with_row-same sound.key list row,
                    with_row-other sound.key list row other other_differs,
                  )
                  (apart other place other_place other_differs inside_row inside_other)
              | inr one_differs ↦
                  let inside_one : place < len_of (ends_at ends one) =
                  rw (there one one_differs) at inside in
                  elim (cases_eq other list) [
                    | inl other_is ↦
                        let inside_row : other_place < after.len =
                        rw (other_is, here) at other_inside in
                        rw (
                          other_is,
                          with_row-same sound.key list row,
                          with_row-other sound.key list row one one_differs,
                        )
                        (λ e. apart one other_place place one_differs inside_row inside_one (sym e))
                    | inr other_differs ↦
                        let inside_other : other_place < len_of (ends_at ends other) =
                        rw (there other other_differs) at other_inside in
                        rw (
                          with_row-other sound.key list row one one_differs,
                          with_row-other sound.key list row other other_differs,
                        )
                        (sound.disjoint one other place other_place differs inside_one inside_other)
                  ]
            ];
        total = omega (
          arith,
          sound.total,
          total,
          sum_by-set len_of ends list after no_ends in_range,
        );
        within = within;
      }
    where
      here : ends_at (set ends list after) list ≡ after
      here = get_or-set_same ends list after no_ends in_range

      there : (other : ℕ) → other ≢ list → ends_at (set ends list after) other ≡ ends_at ends other
      there other differs = get_or-set_other ends list other after no_ends differs

  -- only that list's values change
  pub lists_with : (items : List T)
      → ((other place : ℕ) → other ≢ list → place < len_of (ends_at ends other)
      → SameAt old new (sound.key other place))
      → values_of new after ≡ items
      → map (values_of new) (set ends list after) ≡ set (map (values_of old) ends) list items
  lists_with items same is =
      map-set_one (values_of old) (values_of new) ends list after no_ends items
      (λ other differs inside.
      items_stay old new (ends_at ends other) (sound.key other) (sound.chain other)
      (ends_at ends other)
      (sound.key other)
      (chain_stays old new (ends_at ends other) (sound.key other) (sound.chain other)
      (λ place here. same other place differs here))
      refl
      (λ place here. (same other place differs here).item))
      is

  -- the values of a list are its element in the list of all lists' values
  pub list_of_map : get_or (map (values_of old) ends) list [] ≡ values_of old (ends_at ends list)
  list_of_map = get_or-map (values_of old) ends list no_ends [] in_range

-- a sound arena is sound with more room
pub more_room : {T : Type 0} (slots : ℕ → Option (Node T)) (ends : List Ends) (count capacity : ℕ)
    → AreChains slots ends count capacity → (more : ℕ) → capacity ≤ more
    → AreChains slots ends count more
more_room slots ends count capacity sound more grown =
    record {
      key = sound.key;
      chain = sound.chain;
      disjoint = sound.disjoint;
      total = sound.total;
      within = omega (arith, sound.within, grown);
    }

-- ---- an arena whose lists are all empty
pub empty_sound : {T : Type 0} (slots : ℕ → Option (Node T)) (empty : Ends) (lists capacity : ℕ)
    → empty.len ≡ 0
    → AreChains slots (replicate lists empty) 0 capacity
empty_sound slots empty lists capacity none =
    record {
      key = λ list place. 0;
      chain = λ list. let nothing = no_len list in record {
        held = λ place inside. absurd (omega arith);
        apart = λ place other inside other_inside same. absurd (omega arith);
        first = λ some. absurd (omega arith);
        last = λ place is. absurd (omega arith);
        next = λ place inside. absurd (omega arith);
        previous = λ place inside. absurd (omega arith);
      };
      disjoint =
          λ list other place there differs inside other_inside. let nothing = no_len list in
          absurd (omega arith);
      total = no_sum lists;
      within = omega arith;
    }
  where
    no_len : (list : ℕ) → len_of (ends_at (replicate lists empty) list) ≡ 0
    no_len list =
        elim (cases_lt list lists) [
          | inl inside ↦ ap len_of (get_or-replicate lists list empty no_ends inside) ∙ none
          | inr past ↦ ap len_of
              (get_or_past (replicate lists empty) list no_ends
              (omega (arith, length-replicate lists empty)))
        ]

    no_sum : (n : ℕ) → sum_by len_of (replicate n empty) ≡ 0
    no_sum zero = refl
    no_sum (suc n) = omega (arith, sum_by-cons len_of empty (replicate n empty), no_sum n, none)

-- the values of the lists are empty lists
pub empty_lists : {T : Type 0} (slots : ℕ → Option (Node T)) (empty : Ends) (lists : ℕ)
    → empty.len ≡ 0
    → map (values_of slots) (replicate lists empty) ≡ replicate lists []
empty_lists slots empty zero none = refl
empty_lists slots empty (suc lists) none =
    let nothing : values_of slots empty ≡ [] = rw none refl in
    let rest : map (values_of slots) (replicate lists empty)
    ≡ replicate lists [] = empty_lists slots empty lists none in
    cc
