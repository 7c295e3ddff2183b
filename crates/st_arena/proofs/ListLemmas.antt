-- The code reads the ends of a list from their table as `found`, so facts about each list's chain
-- hold of the list that a call names.
use Rattle.std.proofs.Common.{◌≡◌, ℕ, zero, suc, ◌+◌, ◌<◌, ◌≤◌, List, [], ◌∷◌, ◌++◌, length, get_or}
use Rattle.std.proofs.Common.{map, set, Option, Some, None, IsSome, IfSome, remove, slice_get, refl}
use Rattle.std.proofs.Common.{sym, ap, ◌∙◌, arith}
use Rattle.std.specs.List.{AllZip}
use Rattle.std.proofs.lemmas.List.{length-map, get_or_read}
use Rattle.std.proofs.lemmas.List.Sums.{sum_by-set}
use Rattle.std.proofs.lemmas.Option.{slice_get_past}
use Rattle.st_arena.specs.declared.node.Node.{Node}
use Rattle.st_arena.specs.declared.node.Ends.{Ends}
use Rattle.st_arena.specs.Calls.{Computes}
use Rattle.st_arena.specs.Chain.{len_of, no_ends, ends_at, value_in, values_of, key_after}
use Rattle.st_arena.specs.Chain.{IsChained, AreChains}
use Rattle.st_arena.specs.Chain.{node_keys, AreLadders, KeepsLadder, Appends, Unlinks, ChangesItems}
use Rattle.st_arena.proofs.CallLemmas.{map-from_AllZip}
use Rattle.st_arena.proofs.ChainLemmas.{length-values_of, held_after, last_after, item_after}
use Rattle.st_arena.proofs.ChainLemmas.{key_after-first}
use Rattle.st_arena.proofs.ArenaLemmas.{list_of_map}
use Rattle.st_arena.proofs.AppendLemmas.{append_here, append_sound, append_lists}
use Rattle.st_arena.proofs.UnlinkLemmas.{unlink_here, unlink_sound, unlink_lists}
use Rattle.st_arena.proofs.LadderLemmas.{append_ladder, append_ladders, unlink_ladder}
use Rattle.st_arena.proofs.LadderLemmas.{unlink_ladders, change_ladders}
use Rattle.st_arena.proofs.ChangeLemmas.{change_sound, change_lists, change_each}

module _ {T : Type 0} (slots : ℕ → Option (Node T)) (ends : List Ends) (count capacity : ℕ)
    (sound : AreChains slots ends count capacity) (lists : List (List T))
    (view : map (values_of slots) ends ≡ lists)
    (list : ℕ) (in_range : list < length lists) (found : Ends)
    (read : found ≡ get_or ends list found) where
  -- the list's number has ends in the table
  in_ends : list < length ends
  in_ends = omega (arith, in_range, ap length view, length-map ends (values_of slots))

  -- they are the ends that were read
  found_is : found ≡ ends_at ends list
  found_is = get_or_read ends list found in_ends read no_ends

  -- the list that a contract sees is the values of the chain
  pub list_is : get_or lists list [] ≡ values_of slots found
  list_is =
      ap (λ xs. get_or xs list []) (sym view)
      ∙ list_of_map slots slots ends count capacity sound list in_ends found
      ∙ ap (values_of slots) (sym found_is)

  -- its nodes are a chain
  pub chained : IsChained slots found
  chained = rw found_is (record { key = sound.key list; chain = sound.chain list })

  -- the list has as many items as the ends say
  pub whole : length (values_of slots found) ≡ found.len
  whole = length-values_of slots found chained.key chained.chain

  -- so the length in the ends is the list's
  pub len_is : found.len ≡ length (get_or lists list [])
  len_is = sym whole ∙ ap length (sym list_is)

  -- past the length there is no item
  pub get_past : (place : ℕ) → found.len ≤ place → slice_get (get_or lists list []) place ≡ None
  get_past place past = slice_get_past (get_or lists list []) place (omega (arith, len_is))

  -- below it, the item at a place is the value of the node there
  pub get_at : (place key : ℕ) (node : Node T) → place < found.len
      → key ≡ key_after slots found.first place
      → slots key ≡ Some node → slice_get (get_or lists list []) place ≡ Some node.value
  get_at place key node within is_there is_node =
      ap (λ xs. slice_get xs place) list_is
      ∙ item_after slots found chained place within
      ∙ ap (λ k. value_in (slots k)) (sym is_there)
      ∙ ap value_in is_node

  -- the item at a place is the value in the slot there
  pub get_held : (place key : ℕ) (value : T) → place < found.len
      → key ≡ key_after slots found.first place
      → value_in (slots key) ≡ Some value → slice_get (get_or lists list []) place ≡ Some value
  get_held place key value within is_there held =
      ap (λ xs. slice_get xs place) list_is
      ∙ item_after slots found chained place within
      ∙ ap (λ k. value_in (slots k)) (sym is_there)
      ∙ held

  -- no list has more nodes than the slab
  pub counted : found.len ≤ count
  counted = omega (
    arith,
    sound.total,
    ap len_of found_is,
    sum_by-set len_of ends list no_ends no_ends in_ends,
  )

  -- the slab has the last node of a list that isn't empty
  pub last_there : 0 < found.len → IsSome (slots found.last)
  last_there some = by_len found.len refl some
    where
      by_len : (len : ℕ) → len ≡ found.len → 0 < len → IsSome (slots found.last)
      by_len zero is positive = absurd (omega arith)
      by_len (suc last) is positive =
          rw (last_after slots found chained last is)
          (held_after slots found chained last (omega arith))

  -- the list's ladder, if it has one, holds the keys of the nodes
  pub ladder_is : (ladders : ℕ → Option (List ℕ)) → AreLadders slots ends ladders
      → IfSome (ladders list) (λ l. l ≡ node_keys slots found)
  ladder_is ladders have = rw found_is (have list)

  module _ (new : ℕ → Option (Node T)) (after : Ends) where
    module _ (value : T) (change : Appends slots new found after value) where
      -- a push on the ends that were read is a push on the list's
      appends : Appends slots new (ends_at ends list) after value
      appends = rw found_is at change

      -- after the push the arena is sound
      pub push_sound : (new_count new_capacity : ℕ) → new_count ≡ count + 1
          → new_count ≤ new_capacity
          → AreChains new (set ends list after) new_count new_capacity
      push_sound = append_sound slots new ends count capacity sound list in_ends after value appends

      -- only that list changed: the value is at its end
      pub push_lists : map (values_of new) (set ends list after)
          ≡ set lists list (get_or lists list [] ++ value ∷ [])
      push_lists = rw view at (append_lists slots new ends count capacity sound list in_ends after
          value appends)

      -- the list is a chain with the value at its end
      pub push_chained : IsChained new after
      push_chained = record {
        key = _;
        chain = append_here slots new ends count capacity sound list
            in_ends after value appends;
      }

      -- with the new node's key added, the list's ladder holds the list's keys
      pub push_ladder : (ladders : ℕ → Option (List ℕ)) → AreLadders slots ends ladders
          → IfSome (ladders list) (λ l. l ++ after.last ∷ [] ≡ node_keys new after)
      push_ladder ladders have =
          append_ladder slots new ends count capacity sound ladders have list in_ends after value
          appends

      -- if the list keeps that ladder or none, all ladders are right
      pub push_ladders : (ladders later : ℕ → Option (List ℕ)) → AreLadders slots ends ladders
          → KeepsLadder ladders later list (node_keys new after)
          → AreLadders new (set ends list after) later
      push_ladders ladders later have =
          append_ladders slots new ends count capacity sound ladders have list in_ends after value
          appends later

    module _ (place key : ℕ) (value : T) (change : Unlinks slots new found after place key value)
        (within : place < found.len) (is_there : key ≡ key_after slots found.first place) where
      -- a take from the ends that were read is a take from the list's
      unlinks : Unlinks slots new (ends_at ends list) after place key value
      unlinks = rw found_is at change

      -- the place is within the list
      inside : place < len_of (ends_at ends list)
      inside = rw found_is at within

      -- the key is that of the node at the place
      there : key ≡ sound.key list place
      there =
          is_there
          ∙ ap (λ e. key_after slots e.first place) found_is
          ∙ key_after-first slots (ends_at ends list) (sound.key list) (sound.chain list) place
          inside

      -- after the take the arena is sound
      pub take_sound : (new_count new_capacity : ℕ) → new_count + 1 ≡ count
          → new_count ≤ new_capacity
          → AreChains new (set ends list after) new_count new_capacity
      take_sound =
          unlink_sound slots new ends count capacity sound list in_ends after place key value
          unlinks inside there

      -- only that list changed: it lost the item at the place
      pub take_lists : map (values_of new) (set ends list after)
          ≡ set lists list (remove (get_or lists list []) place)
      take_lists =
          rw view at
          (unlink_lists slots new ends count capacity sound list in_ends after place key value
          unlinks inside there)

      -- the list is a chain without the node at the place
      pub take_chained : IsChained new after
      take_chained =
          record {
            key = _;
            chain = unlink_here slots new ends count capacity sound list in_ends after place key
                value unlinks inside
                there;
          }

      -- without that node's key, the list's ladder holds the list's keys
      pub take_ladder : (ladders : ℕ → Option (List ℕ)) → AreLadders slots ends ladders
          → IfSome (ladders list) (λ l. remove l place ≡ node_keys new after)
      take_ladder ladders have =
          unlink_ladder slots new ends count capacity sound ladders have list in_ends after place
          key value unlinks
          inside there

      -- if the list keeps that ladder or none, all ladders are right
      pub take_ladders : (ladders later : ℕ → Option (List ℕ)) → AreLadders slots ends ladders
          → KeepsLadder ladders later list (node_keys new after)
          → AreLadders new (set ends list after) later
      take_ladders ladders later have =
          unlink_ladders slots new ends count capacity sound ladders have list in_ends after place
          key value unlinks
          inside there later

  module _ (new : ℕ → Option (Node T)) (R : T → T → Type 0)
      (change : ChangesItems slots new R found.first found.len) where
    -- a change under the ends that were read is a change of the list
    changes : ChangesItems slots new R (ends_at ends list).first (len_of (ends_at ends list))
    changes = rw found_is at change

    -- after the change the arena is sound
    pub changed_sound : (new_count new_capacity : ℕ) → new_count ≡ count → new_capacity ≡ capacity
        → AreChains new ends new_count new_capacity
    changed_sound = change_sound slots new ends count capacity sound list in_ends R changes

    -- all ladders are still right
    pub changed_ladders : (ladders : ℕ → Option (List ℕ)) → AreLadders slots ends ladders
        → AreLadders new ends ladders
    changed_ladders ladders have =
        change_ladders slots new ends count capacity sound ladders have list in_ends R changes

    -- the changed list is an element of the list of all lists
    new_list : get_or (map (values_of new) ends) list [] ≡ values_of new (ends_at ends list)
    new_list = list_of_map new new ends count capacity (changed_sound count capacity refl refl) list
        in_ends found

    -- only that list changed
    pub changed_lists : map (values_of new) ends
        ≡ set lists list (get_or (map (values_of new) ends) list [])
    changed_lists = rw new_list
        (rw view at (change_lists slots new ends count capacity sound list in_ends R changes))

    -- R relates each of its items to the new one
    pub changed_each : AllZip R (get_or lists list []) (get_or (map (values_of new) ends) list [])
    changed_each =
        rw (new_list, list_is, found_is)
        (change_each slots new ends count capacity sound list in_ends R changes)

    -- if a function computes R, the list is mapped by it
    pub changed_mapped : (f : T → T) → Computes R f (get_or lists list [])
        → map (values_of new) ends ≡ set lists list (map f (get_or lists list []))
    changed_mapped f computes =
        changed_lists
        ∙ ap (λ xs. set lists list xs)
        (map-from_AllZip R f (get_or lists list []) (get_or (map (values_of new) ends) list [])
        computes
        changed_each)
