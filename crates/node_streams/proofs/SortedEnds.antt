-- A sort by content puts the ends of one content together, in their order: so the nth of them is
-- found from the first, and is that of the nth event that tells of the content.
use Rattle.std.proofs.Common.{◌≡◌, ℕ, ◌+◌, ◌<◌, ◌≤◌, ◌==◌, ◌&&◌, zero, suc, cond, Bool, true, false}
use Rattle.std.proofs.Common.{List, [], ◌∷◌, ◌++◌, length, get_or, drop, Option, Some, None, ◌⊎◌}
use Rattle.std.proofs.Common.{inl, inr, append_assoc, ltb, option_map, refl, arith, sym, ◌∙◌, ap}
use Rattle.std.proofs.Common.{subst}
use Rattle.std.specs.Prelude.{not}
use Rattle.std.specs.Cmp.{IsTotalOrder}
use Rattle.std.specs.Cmp.Lexicographic.{options_total}
use Rattle.std.specs.List.{filter, slice_get}
use Rattle.std.specs.List.Sorted.{IsNonDecreasingBy, IsPartitionPoint, IsPartitionedBy}
use Rattle.std.specs.List.Sorted.{IsSortedByKey, ties}
use Rattle.std.specs.Option.{option_cmp}
use Rattle.std.specs.Ordering.{is_eq, is_lt, nat_cmp, ordering_index, ordering_reverse}
use Rattle.std.specs.Ordering.{ordering_then}
use Rattle.std.specs.declared.cmp.Ordering.{Ordering}
use Rattle.std.specs.declared.cmp.Ordering.TheVariants.{Less, Equal, Greater}
use Rattle.std.proofs.lemmas.Bool.{false≢true}
use Rattle.std.proofs.lemmas.Bool.Decides.{nat_tests}
use Rattle.std.proofs.lemmas.Cmp.{nat_cmp_total, on_total, then_total}
use Rattle.std.proofs.lemmas.List.Sorted.{IsPartitionedBy-ltb, searchable_from_sorted}
use Rattle.std.proofs.lemmas.Option.{none-some, same_Some}
use Rattle.st_core.specs.declared.types.Pid.{Pid}
use Rattle.st_core.specs.declared.types.Kind.{Kind}
use Rattle.st_core.specs.declared.types.Event.{Event}
use Rattle.st_core.specs.Event.{kind_eq, to_eq}
use Rattle.st_core.specs.Pid.{pid_cmp, pid_eq}
use Rattle.st_pair.proofs.ForCallers.{pid_total}
use Rattle.node_streams.specs.declared.content.MessageContent.{MessageContent}
use Rattle.node_streams.specs.declared.ends.End.{End}
use Rattle.node_streams.specs.Messages.{content_eq, content_of, nth, tells}
use Rattle.node_streams.specs.Tables.{AreByContent, alike, content_cmp, ends_from, index_if}
use Rattle.node_streams.proofs.Unsents.{first_left}

-- THE ORDER OF CONTENTS

content_total : IsTotalOrder content_cmp
content_total = then_total (on_total (λ (c : MessageContent). c.from) pid_total)
    (then_total (on_total (λ (c : MessageContent). c.to) (options_total pid_total))
    (then_total (on_total (λ (c : MessageContent). c.label) nat_cmp_total)
    (then_total (on_total (λ (c : MessageContent). c.prev) nat_cmp_total)
    (then_total (on_total (λ (c : MessageContent). c.this) nat_cmp_total)
    (on_total (λ (c : MessageContent). c.value) nat_cmp_total)))))

eq_then : (a b : Ordering) → is_eq (ordering_then a b) ≡ (is_eq a && is_eq b)
eq_then Less b = refl
eq_then Equal b = refl
eq_then Greater b = refl

eq_nat : (m n : ℕ) → is_eq (nat_cmp m n) ≡ (m == n)
eq_nat m n = grind (arith, nat_tests)

both : (a b c d : Bool) → a ≡ c → b ≡ d → (a && b) ≡ (c && d)
both a b c d first second = ap (λ x. x && b) first ∙ ap (λ x. c && x) second

eq_after : (a b : Ordering) (c d : Bool) → is_eq a ≡ c → is_eq b ≡ d
    → is_eq (ordering_then a b) ≡ (c && d)
eq_after a b c d first second = eq_then a b ∙ both (is_eq a) (is_eq b) c d first second

eq_pid : (p q : Pid) → is_eq (pid_cmp p q) ≡ pid_eq p q
eq_pid p q = eq_after (nat_cmp p.node q.node) (nat_cmp p.number q.number) _ _
    (eq_nat p.node q.node) (eq_nat p.number q.number)

eq_to : (a b : Option Pid) → is_eq (option_cmp pid_cmp a b) ≡ to_eq a b
eq_to None None = refl
eq_to None (Some q) = refl
eq_to (Some p) None = refl
eq_to (Some p) (Some q) = eq_pid p q

pub eq_content : (c d : MessageContent) → is_eq (content_cmp c d) ≡ content_eq c d
eq_content c d = eq_after _ _ _ _ (eq_pid c.from d.from) (eq_after _ _ _ _ (eq_to c.to d.to)
    (eq_after _ _ _ _ (eq_nat c.label d.label) (eq_after _ _ _ _ (eq_nat c.prev d.prev)
    (eq_after _ _ _ _ (eq_nat c.this d.this) (eq_nat c.value d.value)))))

abbrev below : End → End → Bool
below x y = is_lt (content_cmp x.content y.content)

tied : (o r : Ordering) → r ≡ ordering_reverse o → (not (is_lt r) && not (is_lt o)) ≡ is_eq o
tied Less r is = ap (λ x. not (is_lt x) && false) is
tied Equal r is = ap (λ x. not (is_lt x) && true) is
tied Greater r is = ap (λ x. not (is_lt x) && true) is

abbrev pub end_of : MessageContent → End
end_of c = record { content = c; index = 0 }

alike_ties : (c : MessageContent) (y : End) → ties below (end_of c) y ≡ alike c y
alike_ties c y =
    tied (content_cmp y.content c) (content_cmp c y.content)
    (content_total.antisymm c y.content)
    ∙ eq_content y.content c

-- a stable sort by content leaves the ends by their content
pub by_content : (all sorted : List End)
    → IsSortedByKey (λ (x : End). x.content) content_cmp sorted
    → ((x : End) → filter (ties below x) sorted ≡ filter (ties below x) all)
    → AreByContent all sorted
by_content all sorted rise stable = record {
  rise = rise;
  groups = λ c.
      let same : ties below (end_of c) ≡ alike c = λ i y. alike_ties c y i in
      sym (ap (λ (test : End → Bool). filter test sorted) same) ∙ stable (end_of c)
      ∙ ap (λ (test : End → Bool). filter test all) same;
}

-- THE SEARCH

abbrev pub index_of : Option End → Option ℕ
index_of o = option_map (λ (x : End). x.index) o

abbrev pub found_by : {X : Type 0} → (X → Bool) → Option X → Option X
found_by test None = None
found_by test (Some x) = cond (test x) (Some x) None

module _ {X : Type 0} (rank : X → ℕ) where
  abbrev one : X → Bool
  one x = rank x == 1

  not_above : (n : ℕ) → 1 < n → (n == 1) ≡ false
  not_above n above = grind (arith, nat_tests)

  not_below : (n : ℕ) → n < 1 → (n == 1) ≡ false
  not_below n less = grind (arith, nat_tests)

  above : (n : ℕ) → 1 ≤ n → (n == 1) ≡ false → 1 < n
  above n least apart = grind (arith, nat_tests)

  none_of : (xs : List X) (n : ℕ) → ((k : ℕ) (d : X) → k < length xs → 1 < rank (get_or xs k d))
      → slice_get (filter one xs) n ≡ None
  none_of [] n far = refl
  none_of (x ∷ xs) n far =
      ap (λ b. slice_get (cond b (x ∷ filter one xs) (filter one xs)) n)
      (not_above (rank x) (far 0 x (omega arith)))
      ∙ none_of xs n (λ k d within. far (suc k) d (omega (arith, within)))

  none_at : (xs : List X) (n : ℕ) → ((k : ℕ) (d : X) → k < length xs → 1 < rank (get_or xs k d))
      → found_by one (slice_get xs n) ≡ None
  none_at [] n far = refl
  none_at (x ∷ xs) zero far =
      ap (λ b. cond {A = Option X} b (Some x) None) (not_above (rank x) (far 0 x (omega arith)))
  none_at (x ∷ xs) (suc n) far =
      none_at xs n (λ k d within. far (suc k) d (omega (arith, within)))

  abbrev Rises : List X → Type 0
  Rises xs = (i j : ℕ) (d : X) → i ≤ j → j < length xs
      → rank (get_or xs i d) ≤ rank (get_or xs j d)

  rises_after : (x : X) (xs : List X) → Rises (x ∷ xs) → Rises xs
  rises_after x xs up = λ i j d least within. up (suc i) (suc j) d (omega (arith, least))
      (omega (arith, within))

  all_above : (x : X) (xs : List X) → Rises (x ∷ xs) → 1 < rank x
      → (k : ℕ) (d : X) → k < length xs → 1 < rank (get_or xs k d)
  all_above x xs up far = λ k d within.
      let least = up 0 (suc k) d (omega arith) (omega (arith, within)) in
      omega (arith, least, far)

  -- if no rank is below 1, the items of rank 1 come first
  in_group : (xs : List X) (n : ℕ) → Rises xs
      → ((k : ℕ) (d : X) → k < length xs → 1 ≤ rank (get_or xs k d))
      → slice_get (filter one xs) n ≡ found_by one (slice_get xs n)
  in_group [] n up least = refl
  in_group (x ∷ xs) zero up least = (elim (one x) as (λ b. one x ≡ b
      → slice_get (cond b (x ∷ filter one xs) (filter one xs)) zero
      ≡ cond b (Some x) None) [
        | true ↦ λ _. refl
        | false ↦ λ apart. none_of xs zero (all_above x xs up
            (above (rank x) (least 0 x (omega arith)) apart))
      ]) refl
  in_group (x ∷ xs) (suc n) up least = (elim (one x) as (λ b. one x ≡ b
      → slice_get (cond b (x ∷ filter one xs) (filter one xs)) (suc n)
      ≡ found_by one (slice_get xs n)) [
        | true ↦ λ _. in_group xs n (rises_after x xs up)
            (λ k d within. least (suc k) d (omega (arith, within)))
        | false ↦ λ apart.
            let far = all_above x xs up (above (rank x) (least 0 x (omega arith)) apart) in
            none_of xs (suc n) far ∙ sym (none_at xs n far)
      ]) refl

  pub searched : (xs : List X) (first n : ℕ) → Rises xs → first ≤ length xs
      → ((k : ℕ) (d : X) → k < first → rank (get_or xs k d) < 1)
      → ((k : ℕ) (d : X) → first ≤ k → k < length xs → 1 ≤ rank (get_or xs k d))
      → slice_get (filter one xs) n ≡ found_by one (slice_get (drop first xs) n)
  searched [] zero n up within before behind = refl
  searched [] (suc first) n up within before behind = absurd (omega (arith, within))
  searched (x ∷ xs) zero n up within before behind =
      in_group (x ∷ xs) n up (λ k d inside. behind k d (omega arith) inside)
  searched (x ∷ xs) (suc first) n up within before behind =
      ap (λ b. slice_get (cond b (x ∷ filter one xs) (filter one xs)) n)
      (not_below (rank x) (before 0 x (omega arith)))
      ∙ searched xs first n (rises_after x xs up) (omega (arith, within))
      (λ k d less. before (suc k) d (omega (arith, less)))
      (λ k d past inside. behind (suc k) d (omega (arith, past)) (omega (arith, inside)))

lt_index : (o : Ordering) → ltb (ordering_index o) 1 ≡ is_lt o
lt_index Less = refl
lt_index Equal = refl
lt_index Greater = refl

pub eq_index : (o : Ordering) → (ordering_index o == 1) ≡ is_eq o
eq_index Less = refl
eq_index Equal = refl
eq_index Greater = refl

index_below : (o : Ordering) → is_lt o ≡ true → ordering_index o < 1
index_below Less is = omega arith
index_below Equal is = absurd (false≢true is)
index_below Greater is = absurd (false≢true is)

index_least : (o : Ordering) → is_lt o ≡ false → 1 ≤ ordering_index o
index_least Less is = absurd (false≢true (sym is))
index_least Equal is = omega arith
index_least Greater is = omega arith

index_found : (c : MessageContent) (o : Option End) → index_if c o ≡ index_of (found_by (alike c) o)
index_found c None = refl
index_found c (Some x) = elim (alike c x) as (λ b. cond b (Some x.index) None
    ≡ index_of (cond b (Some x) None)) [ true ↦ refl | false ↦ refl ]

abbrev pub below_content : MessageContent → End → Bool
below_content c x = is_lt (content_cmp x.content c)

module _ (all v : List End) (are : AreByContent all v) (c : MessageContent) where
  abbrev rank : End → ℕ
  rank x = ordering_index (content_cmp x.content c)

  pub rises : IsNonDecreasingBy rank v
  rises = searchable_from_sorted content_total (λ (x : End). x.content) v c are.rise

  pub parted : IsPartitionedBy (below_content c) v
  parted = subst (λ (test : End → Bool). IsPartitionedBy test v)
      (λ i (x : End). lt_index (content_cmp x.content c) i)
      (IsPartitionedBy-ltb rank v 1 rises)

  nth_of_content : (first n : ℕ) → first ≤ length v
      → IsPartitionPoint (λ x. below_content c x ≡ true) (λ x. below_content c x ≡ false) v first
      → slice_get (filter (alike c) all) n ≡ found_by (alike c) (slice_get (drop first v) n)
  nth_of_content first n within point =
      ap (λ xs. slice_get xs n) (sym (are.groups c))
      ∙ subst (λ (test : End → Bool).
      slice_get (filter test v) n ≡ found_by test (slice_get (drop first v) n))
      (λ i (x : End). (eq_index (content_cmp x.content c) ∙ eq_content x.content c) i)
      (searched rank v first n (λ i j d. rises i j d) within
      (λ k d less. index_below (content_cmp (get_or v k d).content c)
      (point.0 k d (omega arith) less))
      (λ k d past inside. index_least (content_cmp (get_or v k d).content c)
      (point.1 k d past inside)))

  -- the end read there is the nth of its content
  pub nth_read : (first n : ℕ) (o : Option End) → first ≤ length v
      → IsPartitionPoint (λ x. below_content c x ≡ true) (λ x. below_content c x ≡ false) v first
      → o ≡ slice_get (drop first v) n
      → index_if c o ≡ index_of (slice_get (filter (alike c) all) n)
  nth_read first n o within point is =
      index_found c o ∙ ap (λ x. index_of (found_by (alike c) x)) is
      ∙ ap index_of (sym (nth_of_content first n within point))

-- THE NTH EVENT

shift : (i : ℕ) (o : Option ℕ)
    → option_map (λ j. i + 1 + j) o ≡ option_map (λ j. i + j) (option_map suc o)
shift i None = refl
shift i (Some j) = let sum : i + 1 + j ≡ i + suc j = omega arith in ap (λ n. Some n) sum

module _ (k : Kind) (c : MessageContent) where
  ends_nth : (n i : ℕ) (es : List Event)
      → index_of (slice_get (filter (alike c) (ends_from k i es)) n)
      ≡ option_map (λ j. i + j) (nth (tells k c) n es)
  ends_nth n i [] = refl
  ends_nth zero i (e ∷ es) =
      let rest = filter (alike c) (ends_from k (i + 1) es) in
      let far = ends_nth zero (i + 1) es ∙ shift i (nth (tells k c) zero es) in
      let x : End = record { content = content_of e; index = i } in
      elim (kind_eq e.kind k) as (λ a.
      index_of (slice_get (filter (alike c) (cond a (x ∷ []) [] ++ ends_from k (i + 1) es)) zero)
      ≡ option_map (λ j. i + j) (cond (a && content_eq (content_of e) c) (Some 0)
      (option_map suc (nth (tells k c) zero es)))) [
        | true ↦ elim (content_eq (content_of e) c) as (λ b.
            index_of (slice_get (cond b (x ∷ rest) rest) zero)
            ≡ option_map (λ j. i + j) (cond b (Some 0)
            (option_map suc (nth (tells k c) zero es)))) [
              | true ↦ let sum : i ≡ i + 0 = omega arith in ap (λ n. Some n) sum
              | false ↦ far
            ]
        | false ↦ far
      ]
  ends_nth (suc n) i (e ∷ es) =
      let rest = filter (alike c) (ends_from k (i + 1) es) in
      let far = ends_nth (suc n) (i + 1) es ∙ shift i (nth (tells k c) (suc n) es) in
      let x : End = record { content = content_of e; index = i } in
      elim (kind_eq e.kind k) as (λ a.
      index_of (slice_get (filter (alike c) (cond a (x ∷ []) [] ++ ends_from k (i + 1) es)) (suc n))
      ≡ option_map (λ j. i + j) (cond (a && content_eq (content_of e) c)
      (option_map suc (nth (tells k c) n es)) (option_map suc (nth (tells k c) (suc n) es)))) [
        | true ↦ elim (content_eq (content_of e) c) as (λ b.
            index_of (slice_get (cond b (x ∷ rest) rest) (suc n))
            ≡ option_map (λ j. i + j) (cond b (option_map suc (nth (tells k c) n es))
            (option_map suc (nth (tells k c) (suc n) es)))) [
              | true ↦ ends_nth n (i + 1) es ∙ shift i (nth (tells k c) n es)
              | false ↦ far
            ]
        | false ↦ far
      ]

from_zero : (o : Option ℕ) → option_map (λ j. 0 + j) o ≡ o
from_zero None = refl
from_zero (Some j) = let sum : 0 + j ≡ j = omega arith in ap (λ n. Some n) sum

pub nth_event : (k : Kind) (c : MessageContent) (n : ℕ) (es : List Event)
    → index_of (slice_get (filter (alike c) (ends_from k 0 es)) n) ≡ nth (tells k c) n es
nth_event k c n es = ends_nth k c n 0 es ∙ from_zero (nth (tells k c) n es)

-- ONE MORE

module _ (k : Kind) (es : List Event) (i : ℕ) (e : Event) (at : slice_get es i ≡ Some e) where
  abbrev end_if : Bool → List End
  end_if b = cond b (record { content = content_of e; index = i } ∷ []) []

  pub end_step : (old new all : List End) → old ++ ends_from k i (drop i es) ≡ all
      → new ≡ old ++ end_if (kind_eq e.kind k)
      → new ++ ends_from k (i + 1) (drop (i + 1) es) ≡ all
  end_step old new all so_far now =
      let next : i + 1 ≡ suc i = omega arith in
      ap (λ xs. xs ++ ends_from k (i + 1) (drop (i + 1) es)) now
      ∙ append_assoc old (end_if (kind_eq e.kind k)) (ends_from k (i + 1) (drop (i + 1) es))
      ∙ ap (λ m. old ++ (end_if (kind_eq e.kind k) ++ ends_from k (i + 1) (drop m es))) next
      ∙ ap (λ xs. old ++ ends_from k i xs) (sym (first_left es i e at))
      ∙ so_far

-- an item of a list with one more is one of the list, or the one at its end
pub got_more : {A : Type 0} (xs : List A) (x y : A) (i : ℕ) → slice_get (xs ++ x ∷ []) i ≡ Some y
    → (slice_get xs i ≡ Some y) ⊎ ((i ≡ length xs) × (x ≡ y))
got_more [] x y zero at = inr (refl, same_Some x y at)
got_more [] x y (suc i) at = absurd (none-some y at)
got_more (z ∷ xs) x y zero at = inl at
got_more (z ∷ xs) x y (suc i) at = elim (got_more xs x y i at) [
  | inl before ↦ inl before
  | inr last ↦ inr (ap suc last.0, last.1)
]

pub length_more : {A : Type 0} (xs : List A) (x : A) → length (xs ++ x ∷ []) ≡ length xs + 1
length_more [] x = refl
length_more (y ∷ xs) x = let rest = length_more xs x in omega arith
