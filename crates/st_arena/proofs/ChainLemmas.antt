-- Each key of a chain has an item, and the keys are distinct. So a list has as many items as its
-- ends say, and keeps them if the slots of its keys stay.
use Rattle.std.proofs.Common.{◌≡◌, ◌≢◌, ℕ, zero, suc, ◌+◌, ◌<◌, false, List, [], ◌∷◌, length}
use Rattle.std.proofs.Common.{get_or, drop, Option, Some, None, IsSome, is_some, unwrap_or}
use Rattle.std.proofs.Common.{slice_get, refl, sym, ap, ◌∙◌, inl, inr, arith}
use Rattle.std.proofs.lemmas.Bool.{cases_lt}
use Rattle.std.proofs.lemmas.List.{same_lists, length-drop, drop_more}
use Rattle.std.proofs.lemmas.Option.{unwrap_or-slice_get, slice_get-get_or}
use Rattle.st_arena.specs.declared.node.Node.{Node}
use Rattle.st_arena.specs.declared.node.Ends.{Ends}
use Rattle.st_arena.specs.Chain.{value_in, next_key, previous_key, values_from}
use Rattle.st_arena.specs.Chain.{values_of, key_after, IsChain, IsChained}

module _ {T : Type 0} where
  -- a slot that holds a value has a node
  pub held_node : (slot : Option (Node T)) → IsSome (value_in slot)
      → (node : Node T) × (slot ≡ Some node)
  held_node None held = absurd (cc)
  held_node (Some node) held = (node, refl)

  -- a slot that holds a value is not empty
  pub held_slot : (slot : Option (Node T)) → IsSome (value_in slot) → IsSome slot
  held_slot None held = held
  held_slot (Some node) held = refl

  -- a slot holds a value if and only if it has a node
  pub is_some-value_in : (slot : Option (Node T)) → is_some (value_in slot) ≡ is_some slot
  is_some-value_in None = refl
  is_some-value_in (Some node) = refl

module _ {T : Type 0} (slots : ℕ → Option (Node T)) where
  -- the values from a node on begin with its own
  pub items_at_node : (count key : ℕ) (node : Node T) → slots key ≡ Some node
      → values_from slots (suc count) key ≡ node.value ∷ values_from slots count node.next
  items_at_node count key node is = rw is refl

module _ {T : Type 0} (slots : ℕ → Option (Node T)) (ends : Ends) (key : ℕ → ℕ)
    (chain : IsChain slots ends key) where
  -- from any node on, there are as many values as nodes left
  length-values_from : (count start : ℕ) → start + count ≡ ends.len
      → length (values_from slots count (key start)) ≡ count
  length-values_from zero start all = refl
  length-values_from (suc zero) start all =
      let node = held_node (slots (key start)) (chain.held start (omega arith)) in
      rw (items_at_node slots zero (key start) node.0 node.1) refl
  length-values_from (suc (suc count)) start all =
      let node = held_node (slots (key start)) (chain.held start (omega arith)) in
      let link : node.0.next ≡ key (suc start) =
      sym (ap next_key node.1) ∙ chain.next start (omega arith) in
      rw (items_at_node slots (suc count) (key start) node.0 node.1, link)
      (ap suc (length-values_from (suc count) (suc start) (omega arith)))

  -- and each is the value of its node
  get-values_from : (count start place : ℕ) → start + count ≡ ends.len → place < count
      → slice_get (values_from slots count (key start)) place
      ≡ value_in (slots (key (start + place)))
  get-values_from zero start place all within = absurd (omega arith)
  get-values_from (suc count) start zero all within =
      let node = held_node (slots (key start)) (chain.held start (omega arith)) in
      let here : start + 0 ≡ start = omega arith in
      rw (items_at_node slots count (key start) node.0 node.1, here) (sym (ap value_in node.1))
  get-values_from (suc count) start (suc place) all within =
      let node = held_node (slots (key start)) (chain.held start (omega arith)) in
      let link : node.0.next ≡ key (suc start) =
      sym (ap next_key node.1) ∙ chain.next start (omega arith) in
      let there : start + suc place ≡ suc start + place = omega arith in
      rw (items_at_node slots count (key start) node.0 node.1, link, there)
      (get-values_from count (suc start) place (omega arith) (omega arith))

  -- a list has as many items as its ends say
  pub length-values_of : length (values_of slots ends) ≡ ends.len
  length-values_of =
      elim (cases_lt 0 ends.len) [
        | inl some ↦ rw (chain.first some) (length-values_from ends.len 0 (omega arith))
        | inr nothing ↦ let empty : ends.len ≡ 0 = omega arith in rw empty refl
      ]

  -- the item at a place is what the node there holds
  pub get-values_of : (place : ℕ) → place < ends.len
      → slice_get (values_of slots ends) place ≡ value_in (slots (key place))
  get-values_of place within =
      let there : 0 + place ≡ place = omega arith in
      rw (chain.first (omega arith))
      (rw there at (get-values_from ends.len 0 place (omega arith) within))

  -- the item at a place, read with a default, is what the node there holds
  pub get_or-values_of : (place : ℕ) (default : T) → place < ends.len
      → get_or (values_of slots ends) place default
      ≡ unwrap_or (value_in (slots (key place))) default
  get_or-values_of place default within =
      sym (unwrap_or-slice_get (values_of slots ends) place default)
      ∙ ap (λ item. unwrap_or item default) (get-values_of place within)

  -- `place` steps from the first node lead to the node at `place`
  pub key_after-first : (place : ℕ) → place < ends.len
      → key_after slots ends.first place ≡ key place
  key_after-first zero within = chain.first within
  key_after-first (suc place) within =
      rw (key_after-first place (omega arith)) (chain.next place within)

  -- the node at a place is there
  pub held_at : (place : ℕ) → place < ends.len → IsSome (slots (key place))
  held_at place within = held_slot (slots (key place)) (chain.held place within)

-- the facts above in steps from the first node, for code that doesn't know the key of a place
module _ {T : Type 0} (slots : ℕ → Option (Node T)) (ends : Ends) (chained : IsChained slots ends)
  where
    -- `place` steps lead to the key of `place`
    step_is : (place : ℕ) → place < ends.len → key_after slots ends.first place ≡ chained.key place
    step_is place within = key_after-first slots ends chained.key chained.chain place within

    pub held_after : (place : ℕ) → place < ends.len
        → IsSome (slots (key_after slots ends.first place))
    held_after place within =
        ap (λ k. is_some (slots k)) (step_is place within) ∙ held_at slots ends chained.key
        chained.chain place within

    pub item_after : (place : ℕ) → place < ends.len
        → slice_get (values_of slots ends) place
        ≡ value_in (slots (key_after slots ends.first place))
    item_after place within =
        get-values_of slots ends chained.key chained.chain place within
        ∙ ap (λ k. value_in (slots k)) (sym (step_is place within))

    -- as many steps as the length less 1 lead from the first node to the last
    pub last_after : (place : ℕ) → suc place ≡ ends.len
        → ends.last ≡ key_after slots ends.first place
    last_after place is = chained.chain.last place is ∙ sym (step_is place (omega arith))

    -- a node names the node one step before it as its previous
    pub previous_after : (place : ℕ) → suc place < ends.len
        → previous_key (slots (key_after slots ends.first (suc place)))
        ≡ key_after slots ends.first place
    previous_after place within =
        ap (λ k. previous_key (slots k)) (step_is (suc place) within)
        ∙ chained.chain.previous place within
        ∙ sym (step_is place (omega arith))

    -- different numbers of steps lead to different nodes
    pub steps_apart : (place other : ℕ) → place < ends.len → other < ends.len
        → key_after slots ends.first place ≡ key_after slots ends.first other → place ≡ other
    steps_apart place other within other_within same =
        chained.chain.apart place other within other_within
        (sym (step_is place within) ∙ same ∙ step_is other other_within)

    -- the node at a place has its neighbours, if any, in the slab, and they are other nodes
    module _ (place key : ℕ) (node : Node T) (within : place < ends.len)
        (is_there : key ≡ key_after slots ends.first place) (is_node : slots key ≡ Some node) where
      -- the node's previous is the node at the place before
      back_is : (before : ℕ) → suc before ≡ place
          → node.previous ≡ key_after slots ends.first before
      back_is before is =
          sym (ap previous_key is_node)
          ∙ ap (λ k. previous_key (slots k)) (is_there ∙ ap (key_after slots ends.first) (sym is))
          ∙ previous_after before (omega arith)

      -- the node's next is the node at the place after
      front_is : suc place < ends.len → node.next ≡ key_after slots ends.first (suc place)
      front_is more = sym (ap next_key is_node) ∙ ap (λ k. next_key (slots k)) is_there

      -- the node before it is in the slab, and is another node
      pub back_there : 0 < place → IsSome (slots node.previous) × (node.previous ≢ key)
      back_there some = by_place place refl some
        where
          by_place : (p : ℕ) → p ≡ place → 0 < p → IsSome (slots node.previous)
              × (node.previous ≢ key)
          by_place zero is positive = absurd (omega arith)
          by_place (suc before) is positive = (
            rw (back_is before is) (held_after before (omega arith)),
            λ same.
                let both : before ≡ place =
                steps_apart before place (omega arith) within
                (sym (back_is before is) ∙ same ∙ is_there) in
                absurd (omega arith),
          )

      -- the node after it is in the slab, and is another node
      pub front_there : suc place < ends.len → IsSome (slots node.next) × (node.next ≢ key)
      front_there more = (
        rw (front_is more) (held_after (suc place) more),
        λ same.
            let both : suc place ≡ place =
            steps_apart (suc place) place more within (sym (front_is more) ∙ same ∙ is_there) in
            absurd (omega arith),
      )

-- one step along the items of a list that are left
module _ {T : Type 0} (slots : ℕ → Option (Node T)) (whole : List T) (place : ℕ)
    (within : place < length whole) where
  -- while items are left, the node at the key is there
  pub left_there : (count key : ℕ) → values_from slots count key ≡ drop place whole
      → IsSome (slots key)
  left_there zero key left = absurd (omega (arith, ap length left, length-drop place whole))
  left_there (suc count) key left = by_slot (slots key) refl
    where
      by_slot : (slot : Option (Node T)) → slots key ≡ slot → IsSome slot
      by_slot None nothing =
          let none : values_from slots (suc count) key ≡ [] = rw nothing refl in
          absurd (omega (arith, ap length (sym none ∙ left), length-drop place whole))
      by_slot (Some node) is = refl

  -- the node holds the first item left, and the items after it begin at its next
  pub left_step : (count rest key : ℕ) (node : Node T) → slots key ≡ Some node
      → values_from slots count key ≡ drop place whole → suc rest ≡ count
      → (values_from slots rest node.next ≡ drop (place + 1) whole)
      × (slice_get whole place ≡ Some node.value)
  left_step count rest key node is left one_less =
      let parts : node.value ∷ values_from slots rest node.next
      ≡ get_or whole place node.value ∷ drop (place + 1) whole =
      sym (items_at_node slots rest key node is)
      ∙ ap (λ n. values_from slots n key) one_less
      ∙ left
      ∙ drop_more whole place node.value within in
      let first : node.value ≡ get_or whole place node.value = cc in
      (cc, slice_get-get_or whole place node.value within ∙ ap Some (sym first))

-- the slot under the key has the same value and links in both
pub record SameAt {T : Type 0} (old new : ℕ → Option (Node T)) (key : ℕ) : Type 0 where
  pub item : value_in (new key) ≡ value_in (old key)
  pub next : next_key (new key) ≡ next_key (old key)
  pub previous : previous_key (new key) ≡ previous_key (old key)

module _ {T : Type 0} (old new : ℕ → Option (Node T)) (ends : Ends) (key : ℕ → ℕ)
    (chain : IsChain old ends key) where
  -- a chain whose nodes stay is still a chain
  pub chain_stays : ((place : ℕ) → place < ends.len → SameAt old new (key place))
      → IsChain new ends key
  chain_stays same =
      record {
        held = λ place within. rw ((same place within).item) (chain.held place within);
        apart = chain.apart;
        first = chain.first;
        last = chain.last;
        next = λ place within. (same place (omega arith)).next ∙ chain.next place within;
        previous = λ place within. (same (suc place) within).previous ∙ chain.previous place within;
      }

  -- two chains of one length with the same values at each place have the same items
  pub items_stay : (after : Ends) (row : ℕ → ℕ) → IsChain new after row → after.len ≡ ends.len
      → ((place : ℕ) → place < ends.len → value_in (new (row place)) ≡ value_in (old (key place)))
      → values_of new after ≡ values_of old ends
  items_stay after row later len same =
      same_lists (values_of new after) (values_of old ends)
      (length-values_of new after row later ∙ len ∙ sym (length-values_of old ends key chain))
      (λ place default within.
      let inside : place < after.len = omega (arith, length-values_of new after row later) in
      let inside_old : place < ends.len = omega arith in
      get_or-values_of new after row later place default inside
      ∙ ap (λ item. unwrap_or item default) (same place inside_old)
      ∙ sym (get_or-values_of old ends key chain place default inside_old))

  -- an empty slot's key is no node's of the chain
  pub vacant_apart : (vacant place : ℕ) → old vacant ≡ None → place < ends.len → key place ≢ vacant
  vacant_apart vacant place nothing within same =
      let held : IsSome (value_in (old vacant)) = rw (← same) (chain.held place within) in
      let none : is_some (value_in (old vacant)) ≡ false = rw nothing refl in
      absurd (cc)
