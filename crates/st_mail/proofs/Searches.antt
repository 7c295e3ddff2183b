-- Slots are in the order of their items, so the first slot from some slot on that passes a test
-- has the first item from that slot's place on that passes it.
use Rattle.std.proofs.Common.{◌≡◌, ℕ, zero, suc, ◌+◌, ◌-◌, ◌≤◌, Bool, true, false, cond, List, []}
use Rattle.std.proofs.Common.{◌∷◌, drop, length}
use Rattle.std.proofs.Common.{Option, Some, None, option_map, position, refl, sym, ap, ◌∙◌, arith}
use Rattle.std.specs.List.{position_from}
use Rattle.std.proofs.lemmas.Iterator.Adapters.{position_from-zero}
use Rattle.st_mail.specs.KeyedSlots.{IsFirst}
use Rattle.st_mail.specs.Slots.{item_at, passes}
use Rattle.st_arena.specs.Queue.{kept, before}

-- `behind` is the first slot among those behind slot 0, which are numbered one less there
record Shift (test : ℕ → Bool) (start : ℕ) (found : Option ℕ) : Type 0 where
  behind : Option ℕ
  is : found ≡ option_map suc behind
  first : IsFirst (λ s. test (suc s)) start behind

shift : (test : ℕ → Bool) (start less : ℕ) (found : Option ℕ) → less ≡ start - 1
    → IsFirst test start found
    → (start ≡ 0 → test 0 ≡ false) → Shift test less found
shift test start less None is first fails = record {
  behind = None;
  is = refl;
  first = (tt, λ k after. first.1 (suc k) (omega arith));
}
shift test start less (Some zero) is first fails =
    let none : start ≡ 0 = omega (arith, first.0.0) in
    absurd (cc (fails none, first.0.1))
shift test start less (Some (suc s)) is first fails = record {
  behind = Some s;
  is = refl;
  first = (
    (
      omega (arith, first.0.0),
      first.0.1,
      λ k after before.
          first.0.2 (suc k) (omega arith) (omega arith),
    ),
    tt,
  );
}

module _ {T : Type 0} (test : T → Bool) where
  abbrev passes_in : List (Option T) → ℕ → Bool
  passes_in slots s = passes test (item_at slots s)

  -- the place of a slot, if the places of the queue begin at n
  abbrev place_of : ℕ → List (Option T) → Option ℕ → Option ℕ
  place_of n slots found = option_map (λ s. n + before slots s) found

  -- an empty slot in front moves each slot by one, and no place
  past_empty : (n : ℕ) (slots : List (Option T)) (behind : Option ℕ)
      → place_of n slots behind ≡ place_of n (None ∷ slots) (option_map suc behind)
  past_empty n slots None = refl
  past_empty n slots (Some s) = refl

  past_item : (n : ℕ) (item : T) (slots : List (Option T)) (behind : Option ℕ)
      → place_of (n + 1) slots behind ≡ place_of n (Some item ∷ slots) (option_map suc behind)
  past_item n item slots None = refl
  past_item n item slots (Some s) = ap (λ k. Some k) (omega arith)

  none_there : (slots : List (Option T)) (start : ℕ) (found : Option ℕ) → slots ≡ [] → IsFirst
      (passes_in slots) start found
      → found ≡ None
  none_there [] start None is first = refl
  none_there [] start (Some s) is first = absurd (cc (first.0.1))
  none_there (o ∷ slots) start found is first = absurd (cc)

  none_placed : (n : ℕ) (slots : List (Option T)) (found : Option ℕ) → found ≡ None
      → None ≡ place_of n slots found
  none_placed n slots found is = rw is refl

  here : (item : T) (slots : List (Option T)) (found : Option ℕ)
      → IsFirst (passes_in (Some item ∷ slots)) 0 found
      → test item ≡ true → found ≡ Some 0
  here item slots None first is = absurd (cc (first.1 0 (omega arith), is))
  here item slots (Some zero) first is = refl
  here item slots (Some (suc s)) first is =
      absurd (cc (first.0.2 0 (omega arith) (omega arith), is))

  -- the item in front passes the test, or the search goes on behind it
  by_test : (b : Bool) (n : ℕ) (item : T) (slots : List (Option T)) (found : Option ℕ)
      → test item ≡ b
      → IsFirst (passes_in (Some item ∷ slots)) 0 found
      → ((behind : Option ℕ) → IsFirst (passes_in slots) 0 behind
      → position_from test (n + 1) (kept slots) ≡ place_of (n + 1) slots behind)
      → cond b (Some n) (position_from test (n + 1) (kept slots))
      ≡ place_of n (Some item ∷ slots) found
  by_test true n item slots found is first rest =
      rw (here item slots found first is) (ap (λ k. Some k) (omega arith))
  by_test false n item slots found is first rest =
      let behind = shift (passes_in (Some item ∷ slots)) 0 0 found (omega arith) first (λ _. is) in
      rest behind.behind behind.first
      ∙ past_item n item slots behind.behind
      ∙ ap (place_of n (Some item ∷ slots)) (sym behind.is)

  from_first : (n : ℕ) (slots : List (Option T)) (found : Option ℕ)
      → IsFirst (passes_in slots) 0 found
      → position_from test n (kept slots) ≡ place_of n slots found
  from_first n [] found first = none_placed n [] found (none_there [] 0 found refl first)
  from_first n (None ∷ slots) found first =
      let behind = shift (passes_in (None ∷ slots)) 0 0 found (omega arith) first (λ _. refl) in
      from_first n slots behind.behind behind.first
      ∙ past_empty n slots behind.behind
      ∙ ap (place_of n (None ∷ slots)) (sym behind.is)
  from_first n (Some item ∷ slots) found first = by_test (test item) n item slots found refl first
      (from_first (n + 1) slots)

  pub from_start : (n : ℕ) (slots : List (Option T)) (start : ℕ) (found : Option ℕ) → IsFirst
      (passes_in slots) start found
      → position_from test (n + before slots start) (drop (before slots start) (kept slots))
      ≡ place_of n slots found
  from_start n [] start found first = none_placed n [] found (none_there [] start found refl first)
  from_start n (None ∷ slots) zero found first =
      let none : n + 0 ≡ n = omega arith in
      rw none (from_first n (None ∷ slots) found first)
  from_start n (Some item ∷ slots) zero found first =
      let none : n + 0 ≡ n = omega arith in
      rw none (from_first n (Some item ∷ slots) found first)
  from_start n (None ∷ slots) (suc start) found first =
      let behind = shift (passes_in (None ∷ slots)) (suc start) start found (omega arith) first
      (λ is. absurd (omega arith)) in
      from_start n slots start behind.behind behind.first
      ∙ past_empty n slots behind.behind
      ∙ ap (place_of n (None ∷ slots)) (sym behind.is)
  from_start n (Some item ∷ slots) (suc start) found first =
      let behind = shift (passes_in (Some item ∷ slots)) (suc start) start found (omega arith) first
      (λ is. absurd (omega arith)) in
      let next : n + suc (before slots start) ≡ n + 1 + before slots start = omega arith in
      rw next (from_start (n + 1) slots start behind.behind behind.first
      ∙ past_item n item slots behind.behind
      ∙ ap (place_of n (Some item ∷ slots)) (sym behind.is))

  -- the place of the first slot that passes is the first position that passes
  pub found_first : (slots : List (Option T)) (found : Option ℕ) → IsFirst (passes_in slots) 0 found
      → option_map (before slots) found ≡ position test (kept slots)
  found_first slots found first =
      plain found ∙ sym (from_first 0 slots found first)
      ∙ sym (position_from-zero test (kept slots))
    where
      plain : (o : Option ℕ) → option_map (before slots) o ≡ place_of 0 slots o
      plain None = refl
      plain (Some s) = ap (λ k. Some k) (omega arith)

  -- counting the places from n more on adds n to each position
  shifted : (i n : ℕ) (items : List T)
      → position_from test (i + n) items ≡ option_map (λ k. n + k) (position_from test i items)
  shifted i n [] = refl
  shifted i n (item ∷ items) =
      let there : i + n ≡ n + i = omega arith in
      let next : i + n + 1 ≡ i + 1 + n = omega arith in
      rw (next, shifted (i + 1) n items) (by (test item) there)
    where
      by : (b : Bool) → i + n ≡ n + i
          → cond b (Some (i + n)) (option_map (λ k. n + k) (position_from test (i + 1) items))
          ≡ option_map (λ k. n + k) (cond b (Some i) (position_from test (i + 1) items))
      by true there = ap (λ k. Some k) there
      by false there = refl

  pub found_from : (slots : List (Option T)) (start place : ℕ) (found : Option ℕ)
      → before slots start ≡ place
      → IsFirst (passes_in slots) start found
      → option_map (before slots) found
      ≡ option_map (λ k. place + k) (position test (drop place (kept slots)))
  found_from slots start place found is first =
      let here : 0 + before slots start ≡ 0 + place = omega (arith, is) in
      plain found
      ∙ sym (from_start 0 slots start found first)
      ∙ rw is refl
      ∙ shifted 0 place (drop place (kept slots))
      ∙ ap (option_map (λ k. place + k)) (sym (position_from-zero test (drop place (kept slots))))
    where
      plain : (o : Option ℕ) → option_map (before slots) o ≡ place_of 0 slots o
      plain None = refl
      plain (Some s) = ap (λ k. Some k) (omega arith)

  pub none_behind : (items : List T) (place : ℕ) → length items ≤ place
      → None ≡ option_map (λ k. place + k) (position test (drop place items))
  none_behind items place past = rw (dropped items place past) refl
    where
      dropped : (xs : List T) (n : ℕ) → length xs ≤ n → drop n xs ≡ []
      dropped [] zero le = refl
      dropped [] (suc n) le = refl
      dropped (x ∷ xs) zero le = absurd (omega arith)
      dropped (x ∷ xs) (suc n) le = dropped xs n (omega arith)
