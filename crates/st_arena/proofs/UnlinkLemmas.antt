-- A take removes the node from the chain of its list, joins the nodes next to it, and writes no
-- node of another list.
use Rattle.std.proofs.Common.{◌≡◌, ◌≢◌, ℕ, zero, suc, ◌+◌, ◌<◌, ◌≤◌, cond, ltb, List, [], length}
use Rattle.std.proofs.Common.{get_or, map}
use Rattle.std.proofs.Common.{set, Option, remove, refl, sym, ap, ◌∙◌, inl, inr, arith, unwrap_or}
use Rattle.std.proofs.lemmas.Bool.{cases_lt, lt-ltb, le-ltb, cond-true, cond-false, cases_order}
use Rattle.std.proofs.lemmas.List.{same_lists}
use Rattle.st_arena.specs.declared.node.Node.{Node}
use Rattle.st_arena.specs.declared.node.Ends.{Ends}
use Rattle.st_arena.specs.Chain.{len_of, ends_at, value_in, next_key, previous_key, values_of}
use Rattle.st_arena.specs.Chain.{IsChain, AreChains, Unlinks}
use Rattle.std.proofs.lemmas.List.Edits.{length-remove, get_or-remove_below, get_or-remove_above}
use Rattle.st_arena.proofs.ChainLemmas.{SameAt, length-values_of, get_or-values_of}
use Rattle.st_arena.proofs.ArenaLemmas.{sound_with, lists_with, list_of_map}

-- ---- on one chain
module _ {T : Type 0} (old new : ℕ → Option (Node T)) (ends : Ends) (key : ℕ → ℕ)
    (chain : IsChain old ends key)
    (after : Ends) (place gone : ℕ) (value : T)
    (change : Unlinks old new ends after place gone value)
    (within : place < ends.len) (is_there : gone ≡ key place) (row : ℕ → ℕ)
    (below : (other : ℕ) → other < place → row other ≡ key other)
    (above : (other : ℕ) → place ≤ other → row other ≡ key (suc other)) where
  -- only the node at the place is under its key
  not_gone : (other : ℕ) → other < ends.len → other ≢ place → key other ≢ gone
  not_gone other inside differs same =
      differs (chain.apart other place inside within (same ∙ is_there))

  -- the removed node names the node at the place before as its previous
  back_key : (before : ℕ) → suc before ≡ place → previous_key (old gone) ≡ key before
  back_key before is = ap (λ k. previous_key (old k)) (is_there ∙ ap key (sym is))
      ∙ chain.previous before (omega arith)

  -- and the node at the place after as its next
  front_key : suc place < ends.len → next_key (old gone) ≡ key (suc place)
  front_key more = ap (λ k. next_key (old k)) is_there ∙ chain.next place more

  -- of the other nodes, only the node before the place gets a new next, and only the node after it
  -- a new previous
  next_kept : (other : ℕ) → other < ends.len → other ≢ place → suc other ≢ place
      → next_key (new (key other)) ≡ next_key (old (key other))
  next_kept other inside differs not_before =
      change.next_stay (key other) (not_gone other inside differs) (λ some. not_back some)
    where
      not_back : 0 < place → key other ≢ previous_key (old gone)
      not_back = elim place as (λ p. p ≡ place → 0 < p → key other ≢ previous_key (old gone)) [
        | zero ↦ λ is some. absurd (omega arith)
        | suc before ↦ λ is some same.
            let both : other ≡ before =
            chain.apart other before inside (omega arith) (same ∙ back_key before is) in
            absurd (not_before (ap suc both ∙ is))
      ] refl

  previous_kept : (other : ℕ) → other < ends.len → other ≢ place → other ≢ suc place
      → previous_key (new (key other)) ≡ previous_key (old (key other))
  previous_kept other inside differs not_behind =
      change.previous_stay (key other) (not_gone other inside differs)
      (λ more same. absurd (not_behind
      (chain.apart other (suc place) inside more (same ∙ front_key more))))

  -- the nodes before the place have the same values as before
  unlink_same_below : (other : ℕ) → other < place
      → value_in (new (row other)) ≡ value_in (old (key other))
  unlink_same_below other before =
      rw (below other before) (change.items_stay (key other)
      (not_gone other (omega arith) (omega arith)))

  -- the nodes from the place on have the values that were one place further
  unlink_same_above : (other : ℕ) → place ≤ other → suc other < ends.len
      → value_in (new (row other)) ≡ value_in (old (key (suc other)))
  unlink_same_above other behind inside =
      rw (above other behind) (change.items_stay (key (suc other))
      (not_gone (suc other) inside (omega arith)))

  -- the node leaves the chain
  pub unlink_chain : IsChain new after row
  unlink_chain =
      record {
        held = λ other inside.
            elim (cases_lt other place) [
              | inl before ↦ rw (unlink_same_below other before) (chain.held other (omega arith))
              | inr behind ↦ rw (unlink_same_above other behind (omega (arith, change.len)))
                  (chain.held (suc other) (omega (arith, change.len)))
            ];
        apart = λ one other one_inside other_inside same.
            elim (cases_lt one place) [
              | inl one_before ↦
                  elim (cases_lt other place) [
                    | inl before ↦ chain.apart one other (omega arith) (omega arith)
                        (sym (below one one_before) ∙ same ∙ below other before)
                    | inr behind ↦
                        let both : one ≡ suc other =
                        chain.apart one (suc other) (omega arith) (omega (arith, change.len))
                        (sym (below one one_before) ∙ same ∙ above other behind) in
                        absurd (omega arith)
                  ]
              | inr one_behind ↦
                  elim (cases_lt other place) [
                    | inl before ↦
                        let both : suc one ≡ other =
                        chain.apart (suc one) other (omega (arith, change.len)) (omega arith)
                        (sym (above one one_behind) ∙ same ∙ below other before) in
                        absurd (omega arith)
                    | inr behind ↦
                        let both : suc one ≡ suc other =
                        chain.apart (suc one) (suc other) (omega (arith, change.len))
                        (omega (arith, change.len))
                        (sym (above one one_behind) ∙ same ∙ above other behind) in
                        omega arith
                  ]
            ];
        first = λ some.
            elim (cases_lt 0 place) [
              | inl inside ↦ change.first_stays inside ∙ chain.first (omega arith)
                  ∙ sym (below 0 inside)
              | inr past ↦
                  let here : place ≡ 0 = omega arith in
                  change.first_moves here
                  ∙ front_key (omega (arith, change.len))
                  ∙ ap (λ p. key (suc p)) here
                  ∙ sym (above 0 past)
            ];
        last = λ other is.
            elim (cases_lt other place) [
              | inl before ↦
                  let here : suc other ≡ place = omega (arith, change.len) in
                  change.last_moves (omega (arith, change.len)) ∙ back_key other here
                  ∙ sym (below other before)
              | inr behind ↦ change.last_stays (omega (arith, change.len))
                  ∙ chain.last (suc other) (omega (arith, change.len))
                  ∙ sym (above other behind)
            ];
        next = λ other inside.
            elim (cases_order (suc other) place) [
              | inl here ↦
                  ap (λ k. next_key (new k)) (below other (omega arith) ∙ sym (back_key other here))
                  ∙ change.next (omega arith)
                  ∙ front_key (omega (arith, change.len))
                  ∙ ap (λ p. key (suc p)) (sym here)
                  ∙ sym (above (suc other) (omega arith))
              | inr (inl before) ↦
                  ap (λ k. next_key (new k)) (below other (omega arith))
                  ∙ next_kept other (omega arith) (omega arith) (omega arith)
                  ∙ chain.next other (omega arith)
                  ∙ sym (below (suc other) before)
              | inr (inr behind) ↦
                  ap (λ k. next_key (new k)) (above other (omega arith))
                  ∙ next_kept (suc other) (omega (arith, change.len)) (omega arith) (omega arith)
                  ∙ chain.next (suc other) (omega (arith, change.len))
                  ∙ sym (above (suc other) (omega arith))
            ];
        previous = λ other inside.
            elim (cases_order (suc other) place) [
              | inl here ↦
                  ap (λ k. previous_key (new k))
                  (above (suc other) (omega arith)
                  ∙ ap (λ p. key (suc p)) here
                  ∙ sym (front_key (omega (arith, change.len))))
                  ∙ change.previous (omega (arith, change.len))
                  ∙ back_key other here
                  ∙ sym (below other (omega arith))
              | inr (inl before) ↦
                  ap (λ k. previous_key (new k)) (below (suc other) before)
                  ∙ previous_kept (suc other) (omega arith) (omega arith) (omega arith)
                  ∙ chain.previous other (omega arith)
                  ∙ sym (below other (omega arith))
              | inr (inr behind) ↦
                  ap (λ k. previous_key (new k)) (above (suc other) (omega arith))
                  ∙ previous_kept (suc (suc other)) (omega (arith, change.len)) (omega arith)
                  (omega arith)
                  ∙ chain.previous (suc other) (omega (arith, change.len))
                  ∙ sym (above other (omega arith))
            ];
      }

  -- the list's values are the old ones without the item at the place
  pub unlink_items : values_of new after ≡ remove (values_of old ends) place
  unlink_items =
      let many : length (values_of old ends) ≡ ends.len = length-values_of old ends key chain in
      let fewer : length (remove (values_of old ends) place) + 1 ≡ length (values_of old ends) =
      length-remove (values_of old ends) place (omega arith) in
      same_lists (values_of new after) (remove (values_of old ends) place)
      (omega (arith, length-values_of new after row unlink_chain, change.len))
      (λ other default here.
      let inside : other < after.len = omega (arith, length-values_of new after row unlink_chain) in
      get_or-values_of new after row unlink_chain other default inside
      ∙ (elim (cases_lt other place) [
        | inl before ↦
            ap (λ item. unwrap_or item default) (unlink_same_below other before)
            ∙ sym (get_or-values_of old ends key chain other default (omega arith))
            ∙ sym (get_or-remove_below (values_of old ends) place default other before
            (omega arith))
        | inr behind ↦
            let there : suc other ≡ other + 1 = omega arith in
            ap (λ item. unwrap_or item default)
            (unlink_same_above other behind (omega (arith, change.len)))
            ∙ sym (get_or-values_of old ends key chain (suc other) default
            (omega (arith, change.len)))
            ∙ ap (λ p. get_or (values_of old ends) p default) there
            ∙ sym (get_or-remove_above (values_of old ends) place default other behind
            (omega arith))
      ]))

-- ---- among all lists: the removed node and the nodes next to it are this list's
module _ {T : Type 0} (old new : ℕ → Option (Node T)) (ends : List Ends) (count capacity : ℕ)
    (sound : AreChains old ends count capacity) (list : ℕ) (in_range : list < length ends)
    (after : Ends)
    (place gone : ℕ) (value : T)
    (change : Unlinks old new (ends_at ends list) after place gone value)
    (within : place < len_of (ends_at ends list)) (is_there : gone ≡ sound.key list place) where
  -- the keys of the list after the take: the old ones without the key at the place
  pub unlink_row : ℕ → ℕ
  unlink_row other = cond (ltb other place) (sound.key list other) (sound.key list (suc other))

  -- before the place they are the old keys
  pub unlink_row-below : (other : ℕ) → other < place → unlink_row other ≡ sound.key list other
  unfolding unlink_row
  unlink_row-below other before =
      cond-true (ltb other place) (sound.key list other) (sound.key list (suc other))
      (lt-ltb other place before)

  -- from the place on they are the old keys one place further
  pub unlink_row-above : (other : ℕ) → place ≤ other → unlink_row other ≡ sound.key list (suc other)
  unfolding unlink_row
  unlink_row-above other behind =
      cond-false (ltb other place) (sound.key list other) (sound.key list (suc other))
      (le-ltb other place behind)

  -- no node of another list is a node of this one
  not_here : (other there here : ℕ) → other ≢ list → there < len_of (ends_at ends other)
      → here < len_of (ends_at ends list) → (key : ℕ) → key ≡ sound.key list here
      → sound.key other there ≢ key
  not_here other there here differs inside here_inside key is same =
      sound.disjoint other list there here differs inside here_inside (same ∙ is)

  -- no node of another list is the node before the place
  not_back : (other there : ℕ) → other ≢ list → there < len_of (ends_at ends other) → 0 < place
      → sound.key other there ≢ previous_key (old gone)
  not_back other there differs inside some = by_place place refl some
    where
      by_place : (p : ℕ) → p ≡ place → 0 < p → sound.key other there ≢ previous_key (old gone)
      by_place zero is positive = absurd (omega arith)
      by_place (suc before) is positive =
          not_here other there before differs inside (omega arith) (previous_key (old gone))
          (ap (λ k. previous_key (old k)) (is_there ∙ ap (sound.key list) (sym is))
          ∙ (sound.chain list).previous before (omega arith))

  -- the nodes of all other lists stay as they were
  pub unlink_others : (other there : ℕ) → other ≢ list → there < len_of (ends_at ends other)
      → SameAt old new (sound.key other there)
  unlink_others other there differs inside =
      let not_gone = not_here other there place differs inside within gone is_there in
      record {
        item = change.items_stay _ not_gone;
        next = change.next_stay _ not_gone (not_back other there differs inside);
        previous = change.previous_stay _ not_gone
            (λ more.
            not_here other there (suc place) differs inside more (next_key (old gone))
            (ap (λ k. next_key (old k)) is_there ∙ (sound.chain list).next place more));
      }

  -- the list is a chain under its new keys
  pub unlink_here : IsChain new after unlink_row
  unlink_here =
      unlink_chain old new (ends_at ends list) (sound.key list) (sound.chain list) after place gone
      value change
      within is_there unlink_row unlink_row-below unlink_row-above

  -- after a take the arena is sound, with one node fewer
  pub unlink_sound : (new_count new_capacity : ℕ) → new_count + 1 ≡ count → new_count ≤ new_capacity
      → AreChains new (set ends list after) new_count new_capacity
  unlink_sound new_count new_capacity fewer room =
      sound_with old new ends count capacity sound list in_range after unlink_row new_count
      new_capacity unlink_here
      unlink_others
      (λ other here there differs inside other_inside same.
      elim (cases_lt here place) [
        | inl before ↦
            sound.disjoint list other here there (λ e. differs (sym e)) (omega arith) other_inside
            (sym (unlink_row-below here before) ∙ same)
        | inr behind ↦
            sound.disjoint list other (suc here) there (λ e. differs (sym e))
            (omega (arith, change.len)) other_inside
            (sym (unlink_row-above here behind) ∙ same)
      ])
      (omega (arith, change.len))
      room

  -- only the list of the take changed: it lost the item at the place
  pub unlink_lists : map (values_of new) (set ends list after)
      ≡ set (map (values_of old) ends) list
      (remove (get_or (map (values_of old) ends) list []) place)
  unlink_lists =
      lists_with old new ends count capacity sound list in_range after
      (remove (get_or (map (values_of old) ends) list []) place) unlink_others
      (unlink_items old new (ends_at ends list) (sound.key list) (sound.chain list) after place gone
      value change
      within is_there unlink_row unlink_row-below unlink_row-above
      ∙ ap (λ xs. remove xs place)
      (sym (list_of_map old new ends count capacity sound list in_range after)))
