-- A push adds the new node after the last node of its list, and writes no node of another list.
use Rattle.std.proofs.Common.{◌≡◌, ◌≢◌, ℕ, zero, suc, ◌+◌, ◌<◌, ◌≤◌, cond, ltb, List, [], ◌∷◌, ◌++◌}
use Rattle.std.proofs.Common.{length, get_or, map, set, Option, refl, sym, ap, ◌∙◌, inl, inr, arith}
use Rattle.std.proofs.Common.{Some, unwrap_or}
use Rattle.std.proofs.lemmas.Bool.{cases_lt, lt-ltb, le-ltb, cond-true, cond-false}
use Rattle.std.proofs.lemmas.List.{same_lists, length_push, get_or_append_left, get_or_push}
use Rattle.st_arena.specs.declared.node.Node.{Node}
use Rattle.st_arena.specs.declared.node.Ends.{Ends}
use Rattle.st_arena.specs.Chain.{len_of, ends_at, value_in, next_key, previous_key, values_of}
use Rattle.st_arena.specs.Chain.{IsChain, AreChains, Appends}
use Rattle.st_arena.proofs.ChainLemmas.{SameAt, length-values_of, get_or-values_of, vacant_apart}
use Rattle.st_arena.proofs.ArenaLemmas.{sound_with, lists_with, list_of_map}

-- ---- on one chain
module _ {T : Type 0} (old new : ℕ → Option (Node T)) (ends : Ends) (key : ℕ → ℕ)
    (chain : IsChain old ends key)
    (after : Ends) (value : T) (change : Appends old new ends after value) (row : ℕ → ℕ)
    (below : (place : ℕ) → place < ends.len → row place ≡ key place)
    (at_end : row ends.len ≡ change.key) where
  -- the nodes before the new one have the same values as before
  append_same : (place : ℕ) → place < ends.len
      → value_in (new (row place)) ≡ value_in (old (key place))
  append_same place within =
      rw (below place within)
      (change.items_stay (key place)
      (vacant_apart old new ends key chain change.key place change.was_vacant within))

  -- the new node holds the value
  append_holds : (place : ℕ) → place ≡ ends.len → value_in (new (row place)) ≡ Some value
  append_holds place is = rw (is, at_end) change.holds

  -- no node before the new one is under its key
  append_differs : (place other : ℕ) → place < ends.len → other ≡ ends.len → row place ≢ row other
  append_differs place other within is same =
      vacant_apart old new ends key chain change.key place change.was_vacant within
      (sym (below place within) ∙ same ∙ ap row is ∙ at_end)

  -- the new node joins the chain after its last
  pub append_chain : IsChain new after row
  append_chain =
      record {
        held = λ place within.
            elim (cases_lt place ends.len) [
              | inl inside ↦ rw (append_same place inside) (chain.held place inside)
              | inr past ↦ rw (append_holds place (omega (arith, change.len))) refl
            ];
        apart = λ place other within other_within same.
            elim (cases_lt place ends.len) [
              | inl inside ↦
                  elim (cases_lt other ends.len) [
                    | inl other_inside ↦ chain.apart place other inside other_inside
                        (sym (below place inside) ∙ same ∙ below other other_inside)
                    | inr past ↦
                        absurd (append_differs place other inside (omega (arith, change.len)) same)
                  ]
              | inr past ↦
                  elim (cases_lt other ends.len) [
                    | inl other_inside ↦ absurd
                        (append_differs other place other_inside (omega (arith, change.len))
                        (sym same))
                    | inr other_past ↦ omega (arith, change.len)
                  ]
            ];
        first = λ some.
            elim (cases_lt 0 ends.len) [
              | inl inside ↦ change.first_stays inside ∙ chain.first inside ∙ sym (below 0 inside)
              | inr past ↦
                  let empty : ends.len ≡ 0 = omega arith in
                  change.first_moves empty ∙ sym at_end ∙ ap row empty
            ];
        last = λ place is.
            let here : ends.len ≡ place = omega (arith, change.len) in
            change.last ∙ sym at_end ∙ ap row here;
        next = λ place within.
            let inside : place < ends.len = omega (arith, change.len) in
            elim (cases_lt (suc place) ends.len) [
              | inl before ↦
                  ap (λ k. next_key (new k)) (below place inside)
                  ∙ change.next_stay (key place)
                  (vacant_apart old new ends key chain change.key place change.was_vacant inside)
                  (λ some. not_last place before)
                  ∙ chain.next place before
                  ∙ sym (below (suc place) before)
              | inr past ↦
                  let here : suc place ≡ ends.len = omega arith in
                  ap (λ k. next_key (new k)) (below place inside ∙ sym (chain.last place here))
                  ∙ change.next (omega arith)
                  ∙ sym at_end ∙ ap row (sym here)
            ];
        previous = λ place within.
            let inside : place < ends.len = omega (arith, change.len) in
            elim (cases_lt (suc place) ends.len) [
              | inl before ↦
                  ap (λ k. previous_key (new k)) (below (suc place) before)
                  ∙ change.previous_stay (key (suc place))
                  (vacant_apart old new ends key chain change.key (suc place) change.was_vacant
                  before)
                  ∙ chain.previous place before
                  ∙ sym (below place inside)
              | inr past ↦
                  let here : suc place ≡ ends.len = omega arith in
                  ap (λ k. previous_key (new k)) (ap row here ∙ at_end)
                  ∙ change.previous
                  ∙ chain.last place here
                  ∙ sym (below place inside)
            ];
      }
    where
      -- a node that has one after it isn't the last
      not_last : (place : ℕ) → suc place < ends.len → key place ≢ ends.last
      not_last place before same = apart_from_last (ends.len) place refl before same
        where
          apart_from_last : (len place : ℕ) → len ≡ ends.len → suc place < len
              → key place ≡ ends.last → ⊥
          apart_from_last zero place is before same = absurd (omega arith)
          apart_from_last (suc last) place is before same =
              let both : place ≡ last =
              chain.apart place last (omega arith) (omega arith) (same ∙ chain.last last is) in
              absurd (omega arith)

  -- the list's values are the old ones and the new node's
  pub append_items : values_of new after ≡ values_of old ends ++ value ∷ []
  append_items =
      same_lists (values_of new after) (values_of old ends ++ value ∷ [])
      (omega (
        arith,
        length-values_of new after row append_chain,
        length-values_of old ends key chain,
        length_push (values_of old ends) value,
        change.len,
      ))
      (λ place default within.
      let inside : place < after.len = omega (arith, length-values_of new after row append_chain) in
      get_or-values_of new after row append_chain place default inside
      ∙ (elim (cases_lt place ends.len) [
        | inl before ↦
            ap (λ item. unwrap_or item default) (append_same place before)
            ∙ sym (get_or-values_of old ends key chain place default before)
            ∙ sym
            (get_or_append_left (values_of old ends) (value ∷ []) default place
            (omega (arith, length-values_of old ends key chain)))
        | inr past ↦
            ap (λ item. unwrap_or item default) (append_holds place (omega (arith, change.len)))
            ∙ sym
            (get_or_push (values_of old ends) value default place
            (omega (arith, change.len, length-values_of old ends key chain)))
      ]))

-- ---- among all lists: no list had a node under the new key, and the last node is this list's
module _ {T : Type 0} (old new : ℕ → Option (Node T)) (ends : List Ends) (count capacity : ℕ)
    (sound : AreChains old ends count capacity) (list : ℕ) (in_range : list < length ends)
    (after : Ends) (value : T)
    (change : Appends old new (ends_at ends list) after value) where
  -- the keys of the list after the push: the old ones, then the new one
  pub append_row : ℕ → ℕ
  append_row place = cond (ltb place (len_of (ends_at ends list))) (sound.key list place) change.key

  -- below the old length they are the old keys
  pub append_row-below : (place : ℕ) → place < len_of (ends_at ends list)
      → append_row place ≡ sound.key list place
  unfolding append_row
  append_row-below place within =
      cond-true (ltb place (len_of (ends_at ends list))) (sound.key list place) change.key
      (lt-ltb place _ within)

  -- and at the old length the new one
  pub append_row-end : append_row (len_of (ends_at ends list)) ≡ change.key
  unfolding append_row
  append_row-end =
      cond-false (ltb (len_of (ends_at ends list)) (len_of (ends_at ends list)))
      (sound.key list (len_of (ends_at ends list))) change.key
      (le-ltb (len_of (ends_at ends list)) (len_of (ends_at ends list)) (omega arith))

  -- no node of another list is the last node of this list
  not_last : (other place : ℕ) → other ≢ list → place < len_of (ends_at ends other)
      → 0 < len_of (ends_at ends list)
      → sound.key other place ≢ (ends_at ends list).last
  not_last other place differs inside some same = by_len (len_of (ends_at ends list)) refl some
    where
      by_len : (len : ℕ) → len ≡ len_of (ends_at ends list) → 0 < len → ⊥
      by_len zero is positive = absurd (omega arith)
      by_len (suc last) is positive =
          sound.disjoint other list place last differs inside (omega arith)
          (same ∙ (sound.chain list).last last is)

  -- the nodes of all other lists stay as they were
  pub append_others : (other place : ℕ) → other ≢ list → place < len_of (ends_at ends other)
      → SameAt old new (sound.key other place)
  append_others other place differs inside =
      let not_new =
      vacant_apart old new (ends_at ends other) (sound.key other) (sound.chain other) change.key
      place
      change.was_vacant inside in
      record {
        item = change.items_stay _ not_new;
        next = change.next_stay _ not_new (not_last other place differs inside);
        previous = change.previous_stay _ not_new;
      }

  -- the list is a chain under its new keys
  pub append_here : IsChain new after append_row
  append_here =
      append_chain old new (ends_at ends list) (sound.key list) (sound.chain list) after value
      change append_row
      append_row-below append_row-end

  -- after a push the arena is sound, with one more node
  pub append_sound : (new_count new_capacity : ℕ) → new_count ≡ count + 1 → new_count ≤ new_capacity
      → AreChains new (set ends list after) new_count new_capacity
  append_sound new_count new_capacity more within =
      sound_with old new ends count capacity sound list in_range after append_row new_count
      new_capacity append_here
      append_others
      (λ other place there differs inside other_inside same.
      elim (cases_lt place (len_of (ends_at ends list))) [
        | inl before ↦
            sound.disjoint list other place there (λ e. differs (sym e)) before other_inside
            (sym (append_row-below place before) ∙ same)
        | inr past ↦
            let at_end : place ≡ len_of (ends_at ends list) = omega (arith, change.len) in
            vacant_apart old new (ends_at ends other) (sound.key other) (sound.chain other)
            change.key there
            change.was_vacant other_inside
            (sym same ∙ ap append_row at_end ∙ append_row-end)
      ])
      (omega (arith, change.len))
      within

  -- only the list of the push changed: the value is at its end
  pub append_lists : map (values_of new) (set ends list after)
      ≡ set (map (values_of old) ends) list
      (get_or (map (values_of old) ends) list [] ++ value ∷ [])
  append_lists =
      lists_with old new ends count capacity sound list in_range after
      (get_or (map (values_of old) ends) list [] ++ value ∷ []) append_others
      (append_items old new (ends_at ends list) (sound.key list) (sound.chain list) after value
      change append_row
      append_row-below append_row-end
      ∙ ap (λ xs. xs ++ value ∷ [])
      (sym (list_of_map old new ends count capacity sound list in_range after)))
