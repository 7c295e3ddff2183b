-- How a list lies in the arena: as nodes linked by the keys under which the slab keeps them. No
-- public clause cites this module.
use Rattle.std.specs.Prelude.{◌≡◌, ◌≢◌, ℕ, zero, suc, ◌<◌, ◌≤◌, List, [], ◌∷◌, ◌++◌, Option, Some}
use Rattle.std.specs.Prelude.{None, IsSome, IfSome, sum_by, slice_index_or}
use Rattle.std.specs.Option.{option_map, option_map_or}
use Rattle.st_arena.specs.declared.node.Node.{Node}
use Rattle.st_arena.specs.declared.node.Ends.{Ends}

-- how many nodes a list has, by its ends
abbrev pub len_of : Ends → ℕ
len_of ends = ends.len

-- the ends of a list without nodes
abbrev pub no_ends : Ends
no_ends = record { first = 0; last = 0; len = 0 }

-- the ends of the list with the number `list`
abbrev pub ends_at : List Ends → ℕ → Ends
ends_at ends list = slice_index_or ends list no_ends

module _ {T : Type 0} where
  -- the value in a slot, and the keys of the nodes next to its node (0 if the slot is empty)
  abbrev pub value_in : Option (Node T) → Option T
  value_in slot = option_map (λ node. node.value) slot

  abbrev pub next_key : Option (Node T) → ℕ
  next_key slot = option_map_or (λ node. node.next) slot 0

  abbrev pub previous_key : Option (Node T) → ℕ
  previous_key slot = option_map_or (λ node. node.previous) slot 0

-- both slots have a value, and R relates the old value to the new one
pub record Turns {T : Type 0} (R : T → T → Type 0) (old new : Option T) : Type 0 where
  pub before : T
  pub after : T
  pub was : old ≡ Some before
  pub is : new ≡ Some after
  pub related : R before after

-- from here on, `slots` gives the node under a key, if there is one
module _ {T : Type 0} (slots : ℕ → Option (Node T)) where
  -- the values of `count` nodes in a row, from the node under `key` on
  abbrev pub values_from : ℕ → ℕ → List T
  values_from zero key = []
  values_from (suc count) key =
      option_map_or (λ node. node.value ∷ values_from count node.next) (slots key) []

  -- the values of a list
  abbrev pub values_of : Ends → List T
  values_of ends = values_from ends.len ends.first

  -- the key of the node that is `steps` steps after the node under `first`
  abbrev pub key_after : ℕ → ℕ → ℕ
  key_after first zero = first
  key_after first (suc steps) = next_key (slots (key_after first steps))

  -- the keys of `count` nodes in a row, from the node under `first` on
  abbrev pub keys : ℕ → ℕ → List ℕ
  keys zero first = []
  keys (suc count) first = keys count first ++ key_after first count ∷ []

  -- the keys of a list's nodes
  abbrev pub node_keys : Ends → List ℕ
  node_keys ends = keys ends.len ends.first

  -- each ladder holds the keys of its list's nodes; `ladders` gives the ladder of a list that has
  -- one
  abbrev pub AreLadders : List Ends → (ℕ → Option (List ℕ)) → Type 0
  AreLadders ends ladders = (list : ℕ)
      → IfSome (ladders list) (λ ladder. ladder ≡ node_keys (ends_at ends list))

  -- the list's nodes are under the keys `key 0`, `key 1` and so on, each of them once, and each
  -- node names its neighbours; what the first node names as its previous, and the last as its
  -- next, is open
  pub record IsChain (ends : Ends) (key : ℕ → ℕ) : Type 0 where
    pub held : (place : ℕ) → place < ends.len → IsSome (value_in (slots (key place)))
    pub apart : (place other : ℕ) → place < ends.len → other < ends.len → key place ≡ key other
        → place ≡ other
    pub first : 0 < ends.len → ends.first ≡ key 0
    pub last : (place : ℕ) → suc place ≡ ends.len → ends.last ≡ key place
    pub next : (place : ℕ) → suc place < ends.len → next_key (slots (key place)) ≡ key (suc place)
    pub previous : (place : ℕ) → suc place < ends.len
        → previous_key (slots (key (suc place))) ≡ key place

  -- the list's nodes are a chain under some keys
  pub record IsChained (ends : Ends) : Type 0 where
    pub key : ℕ → ℕ
    pub chain : IsChain ends key

  -- each list is a chain, no two lists share a node, and every node is in one of the lists
  pub record AreChains (ends : List Ends) (node_count capacity : ℕ) : Type 0 where
    pub key : ℕ → ℕ → ℕ
    pub chain : (list : ℕ) → IsChain (ends_at ends list) (key list)
    pub disjoint : (list other place other_place : ℕ) → list ≢ other
        → place < len_of (ends_at ends list)
        → other_place < len_of (ends_at ends other) → key list place ≢ key other other_place
    pub total : sum_by len_of ends ≡ node_count
    pub within : node_count ≤ capacity

-- after a change of one list, the list's ladder, if it has one, holds the keys `wanted`, and the
-- ladders of all other lists are as before
pub record KeepsLadder (old new : ℕ → Option (List ℕ)) (list : ℕ) (wanted : List ℕ) : Type 0 where
  pub here : IfSome (new list) (λ ladder. ladder ≡ wanted)
  pub others : (other : ℕ) → other ≢ list → new other ≡ old other

-- how the slots after a change, `new`, differ from those before it, `old`
module _ {T : Type 0} (old new : ℕ → Option (Node T)) where
  -- if the condition holds, the node under `key` names `next` as its next; nothing else changed
  pub record SetsNext (condition : Type 0) (key next : ℕ) : Type 0 where
    pub items_stay : (other : ℕ) → value_in (new other) ≡ value_in (old other)
    pub previous_stay : (other : ℕ) → previous_key (new other) ≡ previous_key (old other)
    pub next_stay : (other : ℕ) → (condition → other ≢ key)
        → next_key (new other) ≡ next_key (old other)
    pub mended : condition → next_key (new key) ≡ next

  -- if the condition holds, the node under `key` names `previous` as its previous; nothing else
  -- changed
  pub record SetsPrevious (condition : Type 0) (key previous : ℕ) : Type 0 where
    pub items_stay : (other : ℕ) → value_in (new other) ≡ value_in (old other)
    pub next_stay : (other : ℕ) → next_key (new other) ≡ next_key (old other)
    pub previous_stay : (other : ℕ) → (condition → other ≢ key)
        → previous_key (new other) ≡ previous_key (old other)
    pub mended : condition → previous_key (new key) ≡ previous

  -- the node under `key` has the value `item`; nothing else changed
  pub record SetsItem (key : ℕ) (item : T) : Type 0 where
    pub next_stay : (other : ℕ) → next_key (new other) ≡ next_key (old other)
    pub previous_stay : (other : ℕ) → previous_key (new other) ≡ previous_key (old other)
    pub items_stay : (other : ℕ) → other ≢ key → value_in (new other) ≡ value_in (old other)
    pub changed : value_in (new key) ≡ Some item

  -- a node with the value `item` joined the list with the ends `ends` as its last one, and the
  -- list's ends became `after`
  pub record Appends (ends after : Ends) (item : T) : Type 0 where
    pub key : ℕ
    pub was_vacant : old key ≡ None
    pub holds : value_in (new key) ≡ Some item
    pub items_stay : (other : ℕ) → other ≢ key → value_in (new other) ≡ value_in (old other)
    pub next_stay : (other : ℕ) → other ≢ key → (0 < ends.len → other ≢ ends.last)
        → next_key (new other) ≡ next_key (old other)
    pub previous_stay : (other : ℕ) → other ≢ key
        → previous_key (new other) ≡ previous_key (old other)
    pub next : 0 < ends.len → next_key (new ends.last) ≡ key
    pub previous : previous_key (new key) ≡ ends.last
    pub first_moves : ends.len ≡ 0 → after.first ≡ key
    pub first_stays : 0 < ends.len → after.first ≡ ends.first
    pub last : after.last ≡ key
    pub len : after.len ≡ suc ends.len

  -- the node under `key`, at `place`, left the list with the ends `ends`, and the list's ends
  -- became `after`
  pub record Unlinks (ends after : Ends) (place key : ℕ) (item : T) : Type 0 where
    pub held : value_in (old key) ≡ Some item
    pub items_stay : (other : ℕ) → other ≢ key → value_in (new other) ≡ value_in (old other)
    pub next_stay : (other : ℕ) → other ≢ key → (0 < place → other ≢ previous_key (old key))
        → next_key (new other) ≡ next_key (old other)
    pub previous_stay : (other : ℕ) → other ≢ key
        → (suc place < ends.len → other ≢ next_key (old key))
        → previous_key (new other) ≡ previous_key (old other)
    pub next : 0 < place → next_key (new (previous_key (old key))) ≡ next_key (old key)
    pub previous : suc place < ends.len
        → previous_key (new (next_key (old key))) ≡ previous_key (old key)
    pub first_moves : place ≡ 0 → after.first ≡ next_key (old key)
    pub first_stays : 0 < place → after.first ≡ ends.first
    pub last_moves : suc place ≡ ends.len → after.last ≡ previous_key (old key)
    pub last_stays : suc place < ends.len → after.last ≡ ends.last
    pub len : suc after.len ≡ ends.len

  -- R relates the value of each of the first `count` nodes to its new value; nothing else changed
  pub record ChangesItems (R : T → T → Type 0) (first count : ℕ) : Type 0 where
    pub next_stay : (other : ℕ) → next_key (new other) ≡ next_key (old other)
    pub previous_stay : (other : ℕ) → previous_key (new other) ≡ previous_key (old other)
    pub items_stay : (other : ℕ) → ((place : ℕ) → place < count → other ≢ key_after old first place)
        → value_in (new other) ≡ value_in (old other)
    pub changed : (place : ℕ) → place < count
        → Turns R (value_in (old (key_after old first place)))
        (value_in (new (key_after old first place)))
