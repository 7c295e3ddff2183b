-- A sort by content keeps alike ends in their order, so as many alike ends come before an end as
-- events before its own tell of its message.
use Rattle.std.proofs.Common.{◌≡◌, ℕ, ◌+◌, ◌<◌, ◌≤◌, zero, suc, cond, Bool, true, false, List, []}
use Rattle.std.proofs.Common.{◌∷◌, length, get_or, take, Option, Some, None, refl, arith, sym, ◌∙◌}
use Rattle.std.proofs.Common.{ap, subst, eq-eqb, inl, inr, ◌==◌, ◌≢◌}
use Rattle.std.specs.List.{count_by, filter, slice_get, slice_set}
use Rattle.std.specs.Option.{option_map_or, unwrap_or}
use Rattle.std.specs.Ordering.{ordering_index}
use Rattle.std.proofs.lemmas.Bool.{cases_order, eqb-true, false≢true}
use Rattle.std.proofs.lemmas.Option.{get_or_from_slice_get, none-some, same_Some}
use Rattle.st_core.specs.declared.types.Kind.{Kind}
use Rattle.st_core.specs.declared.types.Event.{Event}
use Rattle.st_core.specs.Event.{kind_eq}
use Rattle.st_core.proofs.ForCallers.{place_within}
use Rattle.node_streams.specs.declared.content.MessageContent.{MessageContent}
use Rattle.node_streams.specs.declared.ends.End.{End}
use Rattle.node_streams.specs.Messages.{content_eq, content_of, tells}
use Rattle.node_streams.specs.Tables.{AreByContent, CountAlike, alike, content_cmp, ends_from}
use Rattle.node_streams.proofs.Counting.{content_itself, content_same, count_more, taken_more}
use Rattle.node_streams.proofs.Places.{set_other, set_same}
use Rattle.node_streams.proofs.OtherEnds.{IsNth, nth_counts, nth_is, tells_own, told_content}
use Rattle.node_streams.proofs.Orders.{less_or_same}
use Rattle.node_streams.proofs.Owners.{kind_same}
use Rattle.node_streams.proofs.SortedEnds.{eq_content, eq_index, index_of, nth_event, rises}
use Rattle.node_machine.proofs.ForCallers.{count_first}
use Rattle.st_pair.proofs.ForCallers.{at_get_or}

module _ {X : Type 0} (test : X → Bool) where
  -- in the filtered list an item comes after as many as pass before it
  pub filter_at : (xs : List X) (i : ℕ) (x : X) → slice_get xs i ≡ Some x → test x ≡ true
      → slice_get (filter test xs) (count_by test (take i xs)) ≡ Some x
  filter_at [] i x at is = absurd (none-some x at)
  filter_at (y ∷ xs) zero x at is =
      let same = same_Some y x at in
      ap (λ b. slice_get (cond b (y ∷ filter test xs) (filter test xs)) 0)
      (ap test same ∙ is) ∙ at
  filter_at (y ∷ xs) (suc i) x at is = (elim (test y) as (λ b. test y ≡ b
      → slice_get (cond b (y ∷ filter test xs) (filter test xs))
      (count_by test (y ∷ take i xs)) ≡ Some x) [
        | true ↦ λ yes.
            let one = count_first test y (take i xs)
            ∙ ap (λ b. cond b 1 0 + count_by test (take i xs)) yes in
            let more : count_by test (y ∷ take i xs) ≡ suc (count_by test (take i xs)) =
            omega arith in
            ap (slice_get (y ∷ filter test xs)) more ∙ filter_at xs i x at is
        | false ↦ λ no.
            let one = count_first test y (take i xs)
            ∙ ap (λ b. cond b 1 0 + count_by test (take i xs)) no in
            let same : count_by test (y ∷ take i xs) ≡ count_by test (take i xs) = omega arith in
            ap (slice_get (filter test xs)) same ∙ filter_at xs i x at is
      ]) refl

  pub filter_from : (xs : List X) (n : ℕ) (x : X) → slice_get (filter test xs) n ≡ Some x
      → (i : ℕ) × (slice_get xs i ≡ Some x) × (test x ≡ true)
  filter_from [] n x at = absurd (none-some x at)
  filter_from (y ∷ xs) zero x at = (elim (test y) as (λ b. test y ≡ b
      → slice_get (cond b (y ∷ filter test xs) (filter test xs)) zero ≡ Some x
      → (i : ℕ) × (slice_get (y ∷ xs) i ≡ Some x) × (test x ≡ true)) [
        | true ↦ λ yes here. (0, here, sym (ap test (same_Some y x here)) ∙ yes)
        | false ↦ λ _ here. let rest = filter_from xs zero x here in
            (suc rest.0, rest.1, rest.2)
      ]) refl at
  filter_from (y ∷ xs) (suc n) x at = (elim (test y) as (λ b. test y ≡ b
      → slice_get (cond b (y ∷ filter test xs) (filter test xs)) (suc n) ≡ Some x
      → (i : ℕ) × (slice_get (y ∷ xs) i ≡ Some x) × (test x ≡ true)) [
        | true ↦ λ _ here. let rest = filter_from xs n x here in (suc rest.0, rest.1, rest.2)
        | false ↦ λ _ here. let rest = filter_from xs (suc n) x here in
            (suc rest.0, rest.1, rest.2)
      ]) refl at

  pub none_counted : (xs : List X) (i : ℕ)
      → ((k : ℕ) (x : X) → k < i → slice_get xs k ≡ Some x → test x ≡ false)
      → count_by test (take i xs) ≡ 0
  none_counted [] zero none = refl
  none_counted [] (suc i) none = refl
  none_counted (y ∷ xs) zero none = refl
  none_counted (y ∷ xs) (suc i) none =
      let rest = none_counted xs i (λ k x less at. none (suc k) x (omega (arith, less)) at) in
      let first = count_first test y (take i xs)
      ∙ ap (λ b. cond b 1 0 + count_by test (take i xs)) (none 0 y (omega arith) refl) in
      omega arith

some_index : (o : Option End) (j : ℕ) → index_of o ≡ Some j
    → (x : End) × (o ≡ Some x) × (x.index ≡ j)
some_index None j is = absurd (none-some j is)
some_index (Some x) j is = (x, refl, same_Some x.index j is)

-- the number of events before an end's own that tell of its message
abbrev pub told_before : Kind → List Event → End → ℕ
told_before k es x = count_by (tells k x.content) (take x.index es)

module _ (k : Kind) (es : List Event) (v : List End) (are : AreByContent (ends_from k 0 es) v) where
  -- as many events that tell of an end's message come before its event as alike ends before it
  pub end_event : (i : ℕ) (x : End) → slice_get v i ≡ Some x
      → IsNth (tells k x.content) (count_by (alike x.content) (take i v)) es x.index
  end_event i x at =
      let c = x.content in
      let n = count_by (alike c) (take i v) in
      nth_is (tells k c) n es x.index
      (sym (nth_event k c n es)
      ∙ ap (λ xs. index_of (slice_get xs n)) (sym (are.groups c))
      ∙ ap index_of (filter_at (alike c) v i x at (content_itself c)))

  pub one_content : (i j : ℕ) (x y : End) → slice_get v i ≡ Some x → slice_get v j ≡ Some y
      → x.index ≡ y.index → told_before k es x ≡ told_before k es y
  one_content i j x y at_i at_j same =
      let a = end_event i x at_i in
      let b = end_event j y at_j in
      let event = same_Some a.event b.event
      (sym a.at ∙ ap (slice_get es) same ∙ b.at) in
      let content = sym (told_content k x.content a.event a.passes)
      ∙ ap content_of event ∙ told_content k y.content b.event b.passes in
      ap (λ c. count_by (tells k c) (take x.index es)) content
      ∙ ap (λ n. count_by (tells k y.content) (take n es)) same

  pub event_end : (j : ℕ) (e : Event) → slice_get es j ≡ Some e → kind_eq e.kind k ≡ true
      → (i : ℕ) × (x : End) × (slice_get v i ≡ Some x) × (x.content ≡ content_of e)
      × (x.index ≡ j)
  event_end j e at is =
      let c = content_of e in
      let n = count_by (tells k c) (take j es) in
      let found = nth_event k c n es
      ∙ nth_counts (tells k c) es j e at (tells_own k e (kind_same e.kind k is)) in
      let read = some_index (slice_get (filter (alike c) (ends_from k 0 es)) n) j found in
      let place = filter_from (alike c) v n read.0
      (ap (λ xs. slice_get xs n) (are.groups c) ∙ read.1) in
      (place.0, read.0, place.1, content_same read.0.content c place.2, read.2)

  -- if the end right before another one isn't alike, no end before it is
  pub none_before : (i : ℕ) (x y : End) → slice_get v i ≡ Some y → slice_get v (suc i) ≡ Some x
      → alike x.content y ≡ false → (j : ℕ) (z : End) → j < suc i → slice_get v j ≡ Some z
      → alike x.content z ≡ false
  none_before i x y at_y at_x apart j z less at_z =
      let c = x.content in
      let rank : End → ℕ = λ w. ordering_index (content_cmp w.content c) in
      let test : (w : End) → (rank w == 1) ≡ alike c w = λ w.
      eq_index (content_cmp w.content c) ∙ eq_content w.content c in
      let up = rises (ends_from k 0 es) v are c in
      let within = place_within v (suc i) x at_x in
      let first : rank z ≤ rank y =
      subst (λ a. rank a ≤ rank y) (get_or_from_slice_get v j z x at_z)
      (subst (λ b. rank (get_or v j x) ≤ rank b) (get_or_from_slice_get v i y x at_y)
      (up j i x (omega arith) (omega arith))) in
      let second : rank y ≤ rank x =
      subst (λ a. rank a ≤ rank x) (get_or_from_slice_get v i y x at_y)
      (subst (λ b. rank (get_or v i x) ≤ rank b) (get_or_from_slice_get v (suc i) x x at_x)
      (up i (suc i) x (omega arith) (omega arith))) in
      let last : rank x ≡ 1 = eqb-true (rank x) 1 (test x ∙ content_itself c) in
      (elim (alike c z) as (λ b. alike c z ≡ b → alike c z ≡ false) [
        | true ↦ λ yes.
            let one : rank z ≡ 1 = eqb-true (rank z) 1 (test z ∙ yes) in
            let same : rank y ≡ 1 = omega arith in
            absurd (false≢true (sym apart ∙ sym (test y) ∙ eq-eqb (rank y) 1 same))
        | false ↦ λ no. no
      ]) refl

  -- an end's number follows from the number of the end before it
  pub next_number : (i : ℕ) (x y : End) (n : ℕ) → slice_get v i ≡ Some y
      → slice_get v (suc i) ≡ Some x → n ≡ count_by (alike y.content) (take i v)
      → cond (content_eq y.content x.content) (n + 1) 0
      ≡ count_by (alike x.content) (take (suc i) v)
  next_number i x y n at_y at_x is =
      let c = x.content in
      let next = ap (count_by (alike c)) (taken_more v i y at_y)
      ∙ count_more (alike c) (take i v) y in
      (elim (alike c y) as (λ b. alike c y ≡ b
      → cond b (n + 1) 0 ≡ count_by (alike c) (take (suc i) v)) [
        | true ↦ λ yes.
            let same = content_same y.content c yes in
            let one : cond {A = ℕ} (alike c y) 1 0 ≡ 1 = ap (λ b. cond {A = ℕ} b 1 0) yes in
            let number = is ∙ ap (λ d. count_by (alike d) (take i v)) same in
            omega arith
        | false ↦ λ apart. sym (none_counted (alike c) v (suc i)
            (λ j z less at_z. none_before i x y at_y at_x apart j z less at_z))
      ]) refl

  pub number_is : (i : ℕ) (x : End) (last : Option MessageContent) (n m : ℕ)
      → slice_get v i ≡ Some x → (i ≡ 0 → last ≡ None)
      → ((j : ℕ) (y : End) → i ≡ suc j → slice_get v j ≡ Some y
      → (last ≡ Some y.content) × (n ≡ count_by (alike y.content) (take j v)))
      → m ≡ cond (option_map_or (λ d. content_eq d x.content) last false) (n + 1) 0
      → m ≡ count_by (alike x.content) (take i v)
  number_is zero x last n m at first before is =
      is ∙ ap (λ o. cond (option_map_or (λ d. content_eq d x.content) o false) (n + 1) 0)
      (first refl)
  number_is (suc j) x last n m at first before is =
      let within = place_within v (suc j) x at in
      let y = get_or v j x in
      let at_y = at_get_or v j x (omega arith) in
      let had = before j y refl at_y in
      is ∙ ap (λ o. cond (option_map_or (λ d. content_eq d x.content) o false) (n + 1) 0) had.0
      ∙ next_number j x y n at_y at had.1

  abbrev IsTold : List ℕ → End → Type 0
  IsTold numbers x = slice_get numbers x.index ≡ Some (told_before k es x)

  pub told_more : (i m : ℕ) (x : End) (old new : List ℕ) → slice_get v i ≡ Some x
      → length old ≡ length es → m ≡ count_by (alike x.content) (take i v)
      → new ≡ slice_set old x.index m
      → ((j : ℕ) (z : End) → j < i → slice_get v j ≡ Some z → IsTold old z)
      → (j : ℕ) (z : End) → j < i + 1 → slice_get v j ≡ Some z → IsTold new z
  told_more i m x old new at size is put before j z less at_z =
      let a = end_event i x at in
      let inside = place_within es x.index a.event a.at in
      let now : IsTold new x = ap (λ ns. slice_get ns x.index) put
      ∙ set_same old x.index m (omega arith) ∙ ap (λ n. Some n) (is ∙ sym a.before) in
      let other : z.index ≢ x.index → IsTold new z = λ apart.
      ap (λ ns. slice_get ns z.index) put ∙ set_other old x.index z.index m apart
      ∙ (elim (less_or_same j i (omega arith)) [
        | inl earlier ↦ before j z earlier at_z
        | inr same ↦ absurd (apart (ap (λ (w : End). w.index)
            (same_Some z x (sym at_z ∙ ap (slice_get v) same ∙ at))))
      ]) in
      elim (cases_order z.index x.index) [
        | inl same ↦ ap (slice_get new) same ∙ now
            ∙ ap (λ n. Some n) (one_content i j x z at at_z (sym same))
        | inr (inl below) ↦ other (λ same. absurd (omega arith))
        | inr (inr above) ↦ other (λ same. absurd (omega arith))
      ]

  pub all_told : (numbers : List ℕ)
      → ((j : ℕ) (z : End) → j < length v → slice_get v j ≡ Some z → IsTold numbers z)
      → CountAlike k es numbers
  all_told numbers each i e at is =
      let x = event_end i e at is in
      let within = place_within v x.0 x.1 x.2 in
      ap (slice_get numbers) (sym x.4) ∙ each x.0 x.1 within x.2
      ∙ ap (λ c. Some (count_by (tells k c) (take x.1.index es))) x.3
      ∙ ap (λ n. Some (count_by (tells k (content_of e)) (take n es))) x.4

pub number_is_told : (k : Kind) (es : List Event) (numbers : List ℕ) → CountAlike k es numbers
    → (i : ℕ) (e : Event) → slice_get es i ≡ Some e → (n : ℕ)
    → n ≡ unwrap_or (slice_get numbers i) 0 → kind_eq e.kind k ≡ true
    → n ≡ count_by (tells k (content_of e)) (take i es)
number_is_told k es numbers count i e at n is kind =
    is ∙ ap (λ o. unwrap_or o 0) (count i e at kind)
