-- An index finds the first slot of a key, and the rank of that slot is the place of the first
-- message that passes the key's test.
use Rattle.std.proofs.Common.{◌≡◌, ℕ, ◌+◌, ◌<◌, ◌≤◌, Bool, true, List, length, take, drop, get_or}
use Rattle.std.proofs.Common.{slice_get, position}
use Rattle.std.proofs.Common.{Option, Some, None, option_map, refl, sym, ap, subst, ◌∙◌, arith}
use Rattle.std.specs.declared.cmp.Ordering.{Ordering}
use Rattle.std.specs.List.{sum}
use Rattle.st_core.specs.declared.types.Message.{Message}
use Rattle.st_mail.specs.declared.index.Index.{Index}
use Rattle.st_mail.specs.declared.keyed_slots.KeyedSlots.{KeyedSlots}
use Rattle.st_mail.specs.KeyedSlots.{has_key, is_kept, IsFirst}
use Rattle.st_mail.specs.Index.{IsKeyedBy, HasSlots}
use Rattle.st_mail.specs.Slots.{item_at, passes}
use Rattle.st_arena.specs.Queue.{kept, before}
use Rattle.st_arena.proofs.ForCallers.{ranks_room, rank-before, live-kept, live_item, kept-get}
use Rattle.st_mail.proofs.SlotLemmas.{HasItem, inside, get-item, passing}
use Rattle.st_mail.proofs.Searches.{found_first, found_from, none_behind}

module _ (index : Index) (slots : List (Option Message)) (has : HasSlots index slots) where
  -- SLOTS

  pub slots-len : length slots ≤ length index.ranks
  slots-len = omega (arith, ranks_room index.ranks slots has.ranks)

  pub rank-of : (slot : ℕ) (m : Message) → item_at slots slot ≡ Some m
      → sum (take slot index.ranks) ≡ before slots slot
  rank-of slot m is =
      let within = inside slots slot m is in
      rank-before index.ranks slots has.ranks slot (omega (arith, within))

  pub total-of : sum index.ranks ≡ length (kept slots)
  total-of = live-kept index.ranks slots has.ranks

  -- the item of a live slot is the queue's item at the slot's rank
  pub item-at : (slot place : ℕ) (m : Message) → get_or index.ranks slot 0 ≡ 1
      → sum (take slot index.ranks) ≡ place
      → slice_get (kept slots) place ≡ Some m → item_at slots slot ≡ Some m
  item-at slot place m live rank there =
      let item = live_item index.ranks slots has.ranks slot live in
      let is : item_at slots slot ≡ Some item.0 = get-item slots slot item.0 item.1 in
      let at : before slots slot ≡ place = sym (rank-of slot item.0 is) ∙ rank in
      is
      ∙ sym (kept-get slots slot item.0 item.1)
      ∙ ap (slice_get (kept slots)) at
      ∙ there

  -- KEYS

  module _ {K : Type 0} (cmp : K → K → Ordering) (test : K → Message → Bool) (keyed : KeyedSlots K)
      (tells : IsKeyedBy cmp test keyed slots) (on : is_kept keyed ≡ true) (key : K) where
    passes_first : (start : ℕ) (found : Option ℕ) → IsFirst (has_key cmp keyed key) start found
        → IsFirst (λ s. passes (test key) (item_at slots s)) start found
    passes_first start found first =
        subst (λ (f : ℕ → Bool). IsFirst f start found) (λ i s. tells on key s i) first

    item_of : (slot : ℕ) → has_key cmp keyed key slot ≡ true → HasItem slots slot
    item_of slot there = passing (test key) slots slot (sym (tells on key slot) ∙ there)

    ranks_of : (start : ℕ) (found : Option ℕ) → IsFirst (has_key cmp keyed key) start found
        → option_map (λ s. sum (take s index.ranks)) found ≡ option_map (before slots) found
    ranks_of start None first = refl
    ranks_of start (Some s) first =
        let item = item_of s first.0.1 in
        ap (λ k. Some k) (rank-of s item.item item.is)

    -- the first slot of the key is one of the ranked slots
    pub in_ranks : (start slot : ℕ) → IsFirst (has_key cmp keyed key) start (Some slot)
        → slot < length index.ranks
    in_ranks start slot first =
        let item = item_of slot first.0.1 in
        omega (arith, inside slots slot item.item item.is, slots-len)

    module _ (queue : List Message) (items : kept slots ≡ queue) where
      -- the rank of the key's first slot is the first place that passes its test
      pub place_first : (found : Option ℕ) → IsFirst (has_key cmp keyed key) 0 found
          → option_map (λ s. sum (take s index.ranks)) found ≡ position (test key) queue
      place_first found first =
          ranks_of 0 found first
          ∙ found_first (test key) slots found (passes_first 0 found first)
          ∙ ap (position (test key)) items

      -- in a search from a place on, the rank of the key's first slot from there is the first
      -- place that passes
      pub place_from : (start place : ℕ) (found : Option ℕ) → get_or index.ranks start 0 ≡ 1
          → sum (take start index.ranks) ≡ place → IsFirst (has_key cmp keyed key) start found
          → option_map (λ s. sum (take s index.ranks)) found
          ≡ option_map (λ k. place + k) (position (test key) (drop place queue))
      place_from start place found live rank first =
          let item = live_item index.ranks slots has.ranks start live in
          let is = rank-of start item.0 (get-item slots start item.0 item.1) in
          ranks_of start found first
          ∙ found_from (test key) slots start place found (sym is ∙ rank)
          (passes_first start found first)
          ∙ ap (λ (ms : List Message).
          option_map (λ k. place + k) (position (test key) (drop place ms))) items

      pub place_none : (place : ℕ) → sum index.ranks ≤ place
          → None ≡ option_map (λ k. place + k) (position (test key) (drop place queue))
      place_none place past =
          none_behind (test key) queue place (omega (arith, past, total-of, ap length items))
