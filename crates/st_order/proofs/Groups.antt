-- The groups of items sorted by label are the items by label, since the items of each label are
-- neighbours and so one group, and a stable sort keeps their order.
use Rattle.std.proofs.Common.{◌≡◌, ℕ, ◌==◌, ◌<◌, ◌≤◌, ◌||◌, suc, Bool, true, false, cond, List, []}
use Rattle.std.proofs.Common.{◌∷◌, map, filter, length, get_or, Option, Some, None, option_map}
use Rattle.std.proofs.Common.{refl, sym, ◌∙◌, ap, arith}
use Rattle.std.specs.List.{AllByRecursion, cons_option, filter_map, list_any}
use Rattle.std.specs.List.Sorted.{IsSortedByKey, IsStableByKey, IsNonDecreasingBy, ties}
use Rattle.std.specs.Ordering.{nat_cmp, is_lt}
use Rattle.std.proofs.lemmas.Bool.{eq-eqb, eqb-true, ne_eqb}
use Rattle.std.proofs.lemmas.Bool.Decides.{nat_tests}
use Rattle.std.proofs.lemmas.List.Sorted.{IsNonDecreasingBy-from_sort}
use Rattle.st_core.specs.declared.types.Label.{Label}
use Rattle.st_core.specs.Run.{Stream}
use Rattle.st_order.specs.declared.item.Item.{Item}
use Rattle.st_order.specs.declared.item.Item.TheVariants as item
use Rattle.st_order.specs.declared.labels.LabelledItem.{LabelledItem}
use Rattle.st_order.specs.Labels.{label_of, item_has_label, LabelsRise, IsByLabel}
use Rattle.st_order.specs.Groups.{with_label, put_before, groups_of}
use Rattle.st_order.proofs.Lists.{all_mapped}

abbrev Group : Type 0
Group = Label × List Item

abbrev pub number_of : LabelledItem → ℕ
number_of x = x.label.0

abbrev pub items_in : List LabelledItem → List Item
items_in = map (λ (x : LabelledItem). x.item)

abbrev is_with : Label → LabelledItem → Bool
is_with label x = x.label.0 == label.0

abbrev is_of : Label → Group → Bool
is_of label g = g.0.0 == label.0

-- LABELS RISE

-- the labels don't fall
abbrev Climbs : List LabelledItem → Type 0
Climbs [] = Unit {0}
Climbs (x ∷ xs) = AllByRecursion (λ y. number_of x ≤ number_of y) xs × Climbs xs

all_above : (x : LabelledItem) (xs : List LabelledItem)
    → ((j : ℕ) (d : LabelledItem) → j < length xs → number_of x ≤ number_of (get_or xs j d))
    → AllByRecursion (λ y. number_of x ≤ number_of y) xs
all_above x [] far = tt
all_above x (y ∷ xs) far =
    (far 0 x (omega arith), all_above x xs (λ j d within. far (suc j) d (omega arith)))

climbs_from : (xs : List LabelledItem) → IsNonDecreasingBy number_of xs → Climbs xs
climbs_from [] up = tt
climbs_from (x ∷ xs) up = (
  all_above x xs (λ j d within. up 0 (suc j) d (omega arith) (omega arith)),
  climbs_from xs (λ i j d low within. up (suc i) (suc j) d (omega arith) (omega arith)),
)

module _ (P : Label → Type 0) where
  all_put : (x : LabelledItem) (gs : List Group) → P x.label → AllByRecursion (λ g. P g.0) gs
      → AllByRecursion (λ g. P g.0) (put_before x gs)
  all_put x [] one all = (one, tt)
  all_put x (g ∷ gs) one all = elim (g.0.0 == x.label.0) as
      (λ b. AllByRecursion (λ h. P h.0)
      (cond b ((g.0, x.item ∷ g.1) ∷ gs) ((x.label, x.item ∷ []) ∷ g ∷ gs))) [
        | true ↦ (all.0, all.1)
        | false ↦ (one, all)
      ]

  all_grouped : (xs : List LabelledItem) → AllByRecursion (λ x. P x.label) xs
      → AllByRecursion (λ g. P g.0) (groups_of xs)
  all_grouped [] all = tt
  all_grouped (x ∷ xs) all = all_put x (groups_of xs) all.0 (all_grouped xs all.1)

apart_above : (m n : ℕ) → (n == m) ≡ false → m ≤ n → m < n
apart_above m n apart low = grind (arith, nat_tests)

put_rises : (x : LabelledItem) (gs : List Group) → AllByRecursion (λ g. number_of x ≤ g.0.0) gs
    → LabelsRise gs → LabelsRise (put_before x gs)
put_rises x [] low up = (tt, tt)
put_rises x (g ∷ gs) low up = elim (g.0.0 == x.label.0) as (λ b. (g.0.0 == x.label.0) ≡ b
    → LabelsRise (cond b ((g.0, x.item ∷ g.1) ∷ gs) ((x.label, x.item ∷ []) ∷ g ∷ gs))) [
      | true ↦ λ is. up
      | false ↦ λ is.
          let above = apart_above (number_of x) g.0.0 is low.0 in (
            (
              above,
              all_mapped (λ h. g.0.0 < h.0.0) (λ h. number_of x < h.0.0) gs
                  (λ h higher. omega arith) up.0,
            ),
            up,
          )
    ] refl

grouped_rise : (xs : List LabelledItem) → Climbs xs → LabelsRise (groups_of xs)
grouped_rise [] up = tt
grouped_rise (x ∷ xs) up =
    put_rises x (groups_of xs) (all_grouped (λ l. number_of x ≤ l.0) xs up.0) (grouped_rise xs up.1)

-- A LABEL HAS A GROUP WHERE AN ITEM HAS IT

twice : (a b : Bool) (c : Bool) → a ≡ b → (a || c) ≡ (b || (a || c))
twice true true c h = refl
twice true false c h = absurd (cc)
twice false true c h = absurd (cc)
twice false false c h = refl

any_put : (label : Label) (x : LabelledItem) (gs : List Group)
    → list_any (is_of label) (put_before x gs) ≡ (is_with label x || list_any (is_of label) gs)
any_put label x [] = refl
any_put label x (g ∷ gs) = elim (g.0.0 == x.label.0) as (λ b. (g.0.0 == x.label.0) ≡ b
    → list_any (is_of label) (cond b ((g.0, x.item ∷ g.1) ∷ gs) ((x.label, x.item ∷ []) ∷ g ∷ gs))
    ≡ (is_with label x || list_any (is_of label) (g ∷ gs))) [
      | true ↦ λ is.
          twice (is_of label g) (is_with label x) (list_any (is_of label) gs)
          (ap (λ (n : ℕ). n == label.0) (eqb-true g.0.0 x.label.0 is))
      | false ↦ λ is. refl
    ] refl

any_grouped : (label : Label) (xs : List LabelledItem)
    → list_any (is_of label) (groups_of xs) ≡ list_any (is_with label) xs
any_grouped label [] = refl
any_grouped label (x ∷ xs) =
    any_put label x (groups_of xs) ∙ ap (λ (b : Bool). is_with label x || b) (any_grouped label xs)

-- EACH GROUP HAS ALL ITEMS OF ITS LABEL

none_passes : {A : Type 0} (p : A → Bool) (xs : List A) → list_any p xs ≡ false → filter p xs ≡ []
none_passes p [] none = refl
none_passes p (x ∷ xs) none = elim (p x) as
    (λ b. (b || list_any p xs) ≡ false → cond b (x ∷ filter p xs) (filter p xs) ≡ []) [
      | true ↦ λ h. absurd (cc)
      | false ↦ λ h. none_passes p xs h
    ] none

above_all : (n : ℕ) (gs : List Group) (label : Label) → label.0 ≡ n
    → AllByRecursion (λ h. n < h.0.0) gs → list_any (is_of label) gs ≡ false
above_all n [] label same above = refl
above_all n (g ∷ gs) label same above =
    let head : is_of label g ≡ false =
    ne_eqb g.0.0 label.0 (λ is. let low = above.0 in absurd (omega arith)) in
    ap (λ (b : Bool). b || list_any (is_of label) gs) head ∙ above_all n gs label same above.1

-- the group has exactly the items of its label
abbrev Holds : List LabelledItem → Group → Type 0
Holds xs g = g.1 ≡ items_in (filter (is_with g.0) xs)

held_later : (x : LabelledItem) (xs : List LabelledItem) (gs : List Group)
    → AllByRecursion (λ h. number_of x < h.0.0) gs
    → AllByRecursion (Holds xs) gs → AllByRecursion (Holds (x ∷ xs)) gs
held_later x xs [] above all = tt
held_later x xs (g ∷ gs) above all =
    let other : is_with g.0 x ≡ false =
    ne_eqb x.label.0 g.0.0 (λ is. let low = above.0 in absurd (omega arith)) in (
      rw other all.0,
      held_later x xs gs above.1 all.1,
    )

-- an item whose label no later item has is the only item of its label
alone : (x : LabelledItem) (xs : List LabelledItem) → list_any (is_with x.label) xs ≡ false
    → (x.item ∷ []) ≡ items_in (filter (is_with x.label) (x ∷ xs))
alone x xs none =
    rw (eq-eqb x.label.0 x.label.0 refl, none_passes (is_with x.label) xs none) refl

put_holds : (x : LabelledItem) (xs : List LabelledItem) (gs : List Group) → LabelsRise gs
    → AllByRecursion (λ g. number_of x ≤ g.0.0) gs
    → ((label : Label) → list_any (is_of label) gs ≡ list_any (is_with label) xs)
    → AllByRecursion (Holds xs) gs → AllByRecursion (Holds (x ∷ xs)) (put_before x gs)
put_holds x xs [] up low any all = (alone x xs (sym (any x.label)), tt)
put_holds x xs (g ∷ gs) up low any all = elim (g.0.0 == x.label.0) as (λ b. (g.0.0 == x.label.0) ≡ b
    → AllByRecursion (Holds (x ∷ xs))
    (cond b ((g.0, x.item ∷ g.1) ∷ gs) ((x.label, x.item ∷ []) ∷ g ∷ gs))) [
      | true ↦ λ is.
          let same = eqb-true g.0.0 x.label.0 is in
          let its : is_with g.0 x ≡ true = eq-eqb x.label.0 g.0.0 (sym same) in (
            rw its (ap (λ (ys : List Item). x.item ∷ ys) all.0),
            held_later x xs gs (all_mapped (λ h. g.0.0 < h.0.0) (λ h. number_of x < h.0.0) gs
                (λ h higher. omega (arith, same)) up.0) all.1,
          )
      | false ↦ λ is.
          let above = apart_above (number_of x) g.0.0 is low.0 in
          let rest = all_mapped (λ h. g.0.0 < h.0.0) (λ h. number_of x < h.0.0) gs
          (λ h higher. omega arith) up.0 in (
            alone x xs (sym (any x.label) ∙ above_all (number_of x) (g ∷ gs) x.label refl
                (above, rest)),
            held_later x xs (g ∷ gs) (above, rest) all,
          )
    ] refl

grouped_hold : (xs : List LabelledItem) → Climbs xs → AllByRecursion (Holds xs) (groups_of xs)
grouped_hold [] up = tt
grouped_hold (x ∷ xs) up =
    put_holds x xs (groups_of xs) (grouped_rise xs up.1)
    (all_grouped (λ l. number_of x ≤ l.0) xs up.0)
    (λ label. any_grouped label xs) (grouped_hold xs up.1)

-- WHAT A STABLE SORT KEEPS

ties_are : (x y : LabelledItem)
    → ties (λ a b. is_lt (nat_cmp (number_of a) (number_of b))) x y ≡ (number_of y == number_of x)
ties_are x y = grind (arith, nat_tests)

kept_filter : (xs ys : List LabelledItem) (label : Label) → IsStableByKey number_of nat_cmp xs ys
    → filter (is_with label) ys ≡ filter (is_with label) xs
kept_filter xs ys label stable =
    let any = item.Reported (record { node = 0; number = 0 }) 0 in
    let x : LabelledItem = record { label = label; item = any } in
    let test : ties (λ a b. is_lt (nat_cmp (number_of a) (number_of b))) x ≡ is_with label =
    λ i y. ties_are x y i in
    ap (λ (p : LabelledItem → Bool). filter p ys) (sym test) ∙ stable x
    ∙ ap (λ (p : LabelledItem → Bool). filter p xs) test

any_filtered : {A : Type 0} (p : A → Bool) (xs : List A)
    → list_any p xs ≡ list_any (λ x. true) (filter p xs)
any_filtered p [] = refl
any_filtered p (x ∷ xs) = elim (p x) as
    (λ b. (b || list_any p xs) ≡ list_any (λ x. true) (cond b (x ∷ filter p xs) (filter p xs))) [
      | true ↦ refl
      | false ↦ any_filtered p xs
    ]

-- THE ITEMS WITH THEIR LABELS

abbrev with_label_by : Item → Option Label → List LabelledItem → List LabelledItem
with_label_by x o rest = elim o [ None ↦ rest | Some l ↦ record { label = l; item = x } ∷ rest ]

module _ (streams : List Stream) (label : Label) where
  abbrev has_by : Option Label → Bool
  has_by o = elim o [ None ↦ false | Some l ↦ l.0 == label.0 ]

  filtered_by : (x : Item) (o : Option Label) (rest : List LabelledItem)
      → items_in (filter (is_with label) (with_label_by x o rest))
      ≡ cond (has_by o) (x ∷ items_in (filter (is_with label) rest))
      (items_in (filter (is_with label) rest))
  filtered_by x None rest = refl
  filtered_by x (Some l) rest = elim (l.0 == label.0) as
      (λ b. items_in (cond b ((let y : LabelledItem = record { label = l; item = x } in y)
      ∷ filter (is_with label) rest)
      (filter (is_with label) rest))
      ≡ cond b (x ∷ items_in (filter (is_with label) rest))
      (items_in (filter (is_with label) rest))) [
        | true ↦ refl
        | false ↦ refl
      ]

  any_by : (x : Item) (o : Option Label) (rest : List LabelledItem)
      → list_any (is_with label) (with_label_by x o rest)
      ≡ (has_by o || list_any (is_with label) rest)
  any_by x None rest = refl
  any_by x (Some l) rest = refl

  mapped_by : (x : Item) (xs : List Item) → filter_map (with_label streams) (x ∷ xs)
      ≡ with_label_by x (label_of streams x) (filter_map (with_label streams) xs)
  mapped_by x xs = elim (label_of streams x) as
      (λ o. cons_option (option_map (λ l. record { label = l; item = x }) o)
      (filter_map (with_label streams) xs)
      ≡ with_label_by x o (filter_map (with_label streams) xs)) [
        | None ↦ refl
        | Some l ↦ refl
      ]

  labelled_filter : (xs : List Item)
      → items_in (filter (is_with label) (filter_map (with_label streams) xs))
      ≡ filter (item_has_label streams label) xs
  labelled_filter [] = refl
  labelled_filter (x ∷ xs) =
      rw (
        mapped_by x xs,
        filtered_by x (label_of streams x) (filter_map (with_label streams) xs),
        labelled_filter xs,
      ) refl

  labelled_any : (xs : List Item) → list_any (is_with label) (filter_map (with_label streams) xs)
      ≡ list_any (item_has_label streams label) xs
  labelled_any [] = refl
  labelled_any (x ∷ xs) =
      ap (list_any (is_with label)) (mapped_by x xs)
      ∙ any_by x (label_of streams x) (filter_map (with_label streams) xs)
      ∙ ap (λ (b : Bool). item_has_label streams label x || b) (labelled_any xs)

-- BY LABEL

listed : (streams : List Stream) (xs : List Item) (ys : List LabelledItem) (gs : List Group)
    → IsStableByKey number_of nat_cmp (filter_map (with_label streams) xs) ys
    → AllByRecursion (Holds ys) gs
    → AllByRecursion (λ g. g.1 ≡ filter (item_has_label streams g.0) xs) gs
listed streams xs ys [] stable all = tt
listed streams xs ys (g ∷ gs) stable all = (
  all.0 ∙ ap items_in (kept_filter (filter_map (with_label streams) xs) ys g.0 stable)
      ∙ labelled_filter streams g.0 xs,
  listed streams xs ys gs stable all.1,
)

pub grouped_by_label : (streams : List Stream) (xs : List Item) (ys : List LabelledItem)
    → IsSortedByKey number_of nat_cmp ys
    → IsStableByKey number_of nat_cmp (filter_map (with_label streams) xs) ys
    → IsByLabel streams xs (groups_of ys)
grouped_by_label streams xs ys sorted stable =
    let climbs = climbs_from ys (IsNonDecreasingBy-from_sort number_of ys sorted) in
    record {
      rises = grouped_rise ys climbs;
      labels = λ label.
          any_grouped label ys ∙ any_filtered (is_with label) ys
          ∙ ap (list_any (λ x. true))
          (kept_filter (filter_map (with_label streams) xs) ys label stable)
          ∙ sym (any_filtered (is_with label) (filter_map (with_label streams) xs))
          ∙ labelled_any streams label xs;
      lists = listed streams xs ys (groups_of ys) stable (grouped_hold ys climbs);
    }
