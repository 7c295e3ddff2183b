-- A slot's rank is its item's place in the queue, since both count the live slots before it.
use Rattle.std.proofs.Common.{◌≡◌, ◌+◌, ◌-◌, ◌<◌, ◌≤◌, ℕ, zero, suc, List, [], ◌∷◌, ◌++◌, length}
use Rattle.std.proofs.Common.{take, set, get_or}
use Rattle.std.proofs.Common.{map, Option, Some, None, slice_get, refl, sym, ap, ◌∙◌, arith}
use Rattle.std.proofs.lemmas.List.{length-append, length-replicate}
use Rattle.std.proofs.lemmas.List.Sums.{sum_by-cons}
use Rattle.std.proofs.lemmas.Option.{slice_get_within}
use Rattle.std.specs.List.{sum}
use Rattle.std.specs.Prelude.{remove, replicate}
use Rattle.st_arena.specs.Queue.{kept, marks, before, AreRanksOf}
use Rattle.st_arena.proofs.RankLemmas.{no_live, no_mark}

module _ {T : Type 0} where
  -- ---- slots and the queue
  -- the item of a live slot is in the queue at the slot's rank
  pub kept-get : (slots : List (Option T)) (slot : ℕ) (item : T)
      → slice_get slots slot ≡ Some (Some item)
      → slice_get (kept slots) (before slots slot) ≡ Some item
  kept-get [] slot item is = absurd cc
  kept-get (None ∷ slots) zero item is = absurd cc
  kept-get (None ∷ slots) (suc slot) item is = kept-get slots slot item is
  kept-get (Some first ∷ slots) zero item is = cc
  kept-get (Some first ∷ slots) (suc slot) item is = kept-get slots slot item is

  -- emptying the item's slot removes the item from the queue
  pub kept-take : (slots : List (Option T)) (slot : ℕ) (item : T)
      → slice_get slots slot ≡ Some (Some item)
      → kept (set slots slot None) ≡ remove (kept slots) (before slots slot)
  kept-take [] slot item is = absurd cc
  kept-take (None ∷ slots) zero item is = absurd cc
  kept-take (None ∷ slots) (suc slot) item is = kept-take slots slot item is
  kept-take (Some first ∷ slots) zero item is = refl
  kept-take (Some first ∷ slots) (suc slot) item is =
      ap (λ t. first ∷ t) (kept-take slots slot item is)

  -- a slot added with an item adds the item to the queue
  pub kept-put : (slots : List (Option T)) (item : T)
      → kept (slots ++ Some item ∷ []) ≡ kept slots ++ item ∷ []
  kept-put [] item = refl
  kept-put (None ∷ slots) item = kept-put slots item
  kept-put (Some first ∷ slots) item = ap (λ t. first ∷ t) (kept-put slots item)

  -- a queue whose items have a slot each, and all slots live
  pub kept-map_Some : (items : List T) → kept (map (λ x. Some x) items) ≡ items
  kept-map_Some [] = refl
  kept-map_Some (x ∷ xs) = ap (λ t. x ∷ t) (kept-map_Some xs)

  -- ---- slots and ranks
  pub length-marks : (slots : List (Option T)) → length (marks slots) ≡ length slots
  length-marks [] = refl
  length-marks (None ∷ slots) = ap suc (length-marks slots)
  length-marks (Some item ∷ slots) = ap suc (length-marks slots)

  -- the marks of slots that all hold items are ones
  marks-map_Some : (items : List T) → marks (map (λ x. Some x) items) ≡ replicate (length items) 1
  marks-map_Some [] = refl
  marks-map_Some (x ∷ xs) = ap (λ t. 1 ∷ t) (marks-map_Some xs)

  -- the marks of the slots, and then of the spare ones
  abbrev with_spare : List (Option T) → ℕ → List ℕ
  with_spare slots spare = marks slots ++ replicate spare 0

  rank_in : (slots : List (Option T)) (spare slot : ℕ) → slot ≤ length slots
      → sum (take slot (with_spare slots spare)) ≡ before slots slot
  rank_in [] spare zero inside = refl
  rank_in [] spare (suc slot) inside = absurd (omega (arith, inside))
  rank_in (None ∷ slots) spare zero inside = refl
  rank_in (Some item ∷ slots) spare zero inside = refl
  rank_in (None ∷ slots) spare (suc slot) inside =
      let rest = rank_in slots spare slot (omega (arith, inside)) in
      let first = sum_by-cons (λ x. x) 0 (take slot (with_spare slots spare)) in
      omega (arith, rest, first)
  rank_in (Some item ∷ slots) spare (suc slot) inside =
      let rest = rank_in slots spare slot (omega (arith, inside)) in
      let first = sum_by-cons (λ x. x) 1 (take slot (with_spare slots spare)) in
      omega (arith, rest, first)

  live_in : (slots : List (Option T)) (spare : ℕ)
      → sum (with_spare slots spare) ≡ length (kept slots)
  live_in [] spare = no_live spare
  live_in (None ∷ slots) spare =
      omega (arith, live_in slots spare, sum_by-cons (λ x. x) 0 (with_spare slots spare))
  live_in (Some item ∷ slots) spare =
      omega (arith, live_in slots spare, sum_by-cons (λ x. x) 1 (with_spare slots spare))

  mark_in : (slots : List (Option T)) (spare slot : ℕ) (item : T)
      → slice_get slots slot ≡ Some (Some item)
      → get_or (with_spare slots spare) slot 0 ≡ 1
  mark_in [] spare slot item is = absurd cc
  mark_in (None ∷ slots) spare zero item is = absurd cc
  mark_in (Some first ∷ slots) spare zero item is = refl
  mark_in (None ∷ slots) spare (suc slot) item is = mark_in slots spare slot item is
  mark_in (Some first ∷ slots) spare (suc slot) item is = mark_in slots spare slot item is

  dead_in : (slots : List (Option T)) (spare slot : ℕ) → length slots ≤ slot
      → get_or (with_spare slots spare) slot 0 ≡ 0
  dead_in [] spare slot past = no_mark spare slot
  dead_in (o ∷ slots) spare zero past = absurd (omega (arith, past))
  dead_in (None ∷ slots) spare (suc slot) past = dead_in slots spare slot (omega (arith, past))
  dead_in (Some item ∷ slots) spare (suc slot) past = dead_in slots spare slot (omega (arith, past))

  item_in : (slots : List (Option T)) (spare slot : ℕ) → get_or (with_spare slots spare) slot 0 ≡ 1
      → (item : T) × (slice_get slots slot ≡ Some (Some item))
  item_in [] spare slot live = let none = no_mark spare slot in absurd (omega (arith, live, none))
  item_in (None ∷ slots) spare zero live = absurd (omega (arith, live))
  item_in (Some item ∷ slots) spare zero live = (item, refl)
  item_in (None ∷ slots) spare (suc slot) live = item_in slots spare slot live
  item_in (Some item ∷ slots) spare (suc slot) live = item_in slots spare slot live

  take_in : (slots : List (Option T)) (spare slot : ℕ) → slot < length slots
      → set (with_spare slots spare) slot 0 ≡ with_spare (set slots slot None) spare
  take_in [] spare slot inside = absurd (omega (arith, inside))
  take_in (None ∷ slots) spare zero inside = refl
  take_in (Some item ∷ slots) spare zero inside = refl
  take_in (None ∷ slots) spare (suc slot) inside =
      ap (λ t. 0 ∷ t) (take_in slots spare slot (omega (arith, inside)))
  take_in (Some item ∷ slots) spare (suc slot) inside =
      ap (λ t. 1 ∷ t) (take_in slots spare slot (omega (arith, inside)))

  put_in : (slots : List (Option T)) (spare : ℕ) (item : T)
      → set (with_spare slots (suc spare)) (length slots) 1
      ≡ with_spare (slots ++ Some item ∷ []) spare
  put_in [] spare item = refl
  put_in (None ∷ slots) spare item = ap (λ t. 0 ∷ t) (put_in slots spare item)
  put_in (Some first ∷ slots) spare item = ap (λ t. 1 ∷ t) (put_in slots spare item)

-- from here on, the ranks are those of the slots
module _ {T : Type 0} (ranks : List ℕ) (slots : List (Option T)) (of : AreRanksOf ranks slots) where
  -- there is a mark for each slot, and for each spare one
  pub ranks_room : length ranks ≡ length slots + of.spare
  ranks_room =
      ap length of.are
      ∙ length-append (marks slots) (replicate of.spare 0)
      ∙ (λ i. length-marks slots i + length-replicate of.spare zero i)

  -- the rank that `rank` returns is the number of live slots before
  pub rank-before : (slot : ℕ) → slot ≤ length slots → sum (take slot ranks) ≡ before slots slot
  rank-before slot inside = ap (λ l. sum (take slot l)) of.are ∙ rank_in slots of.spare slot inside

  -- the number that `live` returns is the length of the queue
  pub live-kept : sum ranks ≡ length (kept slots)
  live-kept = ap sum of.are ∙ live_in slots of.spare

  -- each spare slot is marked dead
  pub marked_dead : (slot : ℕ) → length slots ≤ slot → get_or ranks slot 0 ≡ 0
  marked_dead slot past = ap (λ l. get_or l slot 0) of.are ∙ dead_in slots of.spare slot past

  -- a slot that is marked live holds an item
  pub live_item : (slot : ℕ) → get_or ranks slot 0 ≡ 1
      → (item : T) × (slice_get slots slot ≡ Some (Some item))
  live_item slot live = item_in slots of.spare slot (sym (ap (λ l. get_or l slot 0) of.are) ∙ live)

  -- the ranks stay right if a slot is emptied and marked dead
  pub ranks-take : (slot : ℕ) → slot < length slots
      → AreRanksOf (set ranks slot 0) (set slots slot None)
  ranks-take slot inside =
      record {
        spare = of.spare;
        are = ap (λ l. set l slot 0) of.are ∙ take_in slots of.spare slot inside;
      }

  -- the ranks stay right if the first spare slot takes an item and is marked live
  pub ranks-put : (item : T) → length slots < length ranks
      → AreRanksOf (set ranks (length slots) 1) (slots ++ Some item ∷ [])
  ranks-put item room =
      let left = of.spare - 1 in
      let some : of.spare ≡ suc left = omega (arith, room, ranks_room) in
      record {
        spare = left;
        are =
            ap (λ l. set l (length slots) 1) of.are
            ∙ ap (λ n. set (marks slots ++ replicate n 0) (length slots) 1) some
            ∙ put_in slots left item;
      }

-- new ranks with as many live slots as items are the ranks of those items
pub ranks-new : {T : Type 0} (ranks : List ℕ) (items : List T) (spare : ℕ)
    → ranks ≡ replicate (length items) 1 ++ replicate spare 0
    → AreRanksOf ranks (map (λ x. Some x) items)
ranks-new ranks items spare is =
    record {
      spare = spare;
      are = is ∙ ap (λ l. l ++ replicate spare 0) (sym (marks-map_Some items));
    }

-- the slot that `select` returns for a place
module _ {T : Type 0} (ranks : List ℕ) (slots : List (Option T)) (of : AreRanksOf ranks slots)
    (slot place : ℕ)
    (live : get_or ranks slot 0 ≡ 1) (rank : sum (take slot ranks) ≡ place) where
  -- it is one of the slots, not a spare one
  pub selected_inside : slot < length slots
  selected_inside =
      let there = live_item ranks slots of slot live in
      slice_get_within slots slot (Some there.0) there.1

  selected_before : before slots slot ≡ place
  selected_before =
      let inside = selected_inside in
      sym (rank-before ranks slots of slot (omega (arith, inside))) ∙ rank

  -- it holds the item at that place of the queue
  pub selected_item : slice_get slots slot ≡ Some (slice_get (kept slots) place)
  selected_item =
      let there = live_item ranks slots of slot live in
      let at_place : slice_get (kept slots) place ≡ Some there.0 =
      ap (slice_get (kept slots)) (sym selected_before) ∙ kept-get slots slot there.0 there.1 in
      there.1 ∙ ap Some (sym at_place)

  -- emptying it removes that item from the queue
  pub selected_take : kept (set slots slot None) ≡ remove (kept slots) place
  selected_take =
      let there = live_item ranks slots of slot live in
      kept-take slots slot there.0 there.1 ∙ ap (remove (kept slots)) selected_before
