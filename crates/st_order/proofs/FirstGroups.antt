-- The first group of a list ends before the first item that has another label, by induction on the
-- items that follow.
use Rattle.std.proofs.Common.{◌≡◌, ℕ, ◌+◌, ◌==◌, ◌++◌, suc, Bool, true, false, cond, List, [], ◌∷◌}
use Rattle.std.proofs.Common.{take, drop, Some, slice_get, append_assoc, refl, sym, ◌∙◌, ap, arith}
use Rattle.std.proofs.lemmas.Bool.{eqb-true, eq-eqb}
use Rattle.std.proofs.lemmas.Option.{same_Some}
use Rattle.st_core.specs.declared.types.Label.{Label}
use Rattle.st_order.specs.declared.item.Item.{Item}
use Rattle.st_order.specs.declared.labels.LabelledItem.{LabelledItem}
use Rattle.st_order.specs.Groups.{leading_with, put_before, groups_of}
use Rattle.st_order.proofs.Groups.{items_in}

abbrev Group : Type 0
Group = Label × List Item

same_label : (k l : Label) → (k.0 == l.0) ≡ true → k ≡ l
same_label k l h = let number = eqb-true k.0 l.0 h in λ i. record { 0 = number i }

-- the first group of a list that begins with x, and the groups of the rest
abbrev cut_after : LabelledItem → ℕ → List LabelledItem → List Group
cut_after x n xs = (x.label, x.item ∷ items_in (take n xs)) ∷ groups_of (drop n xs)

pub grouped_after : (x : LabelledItem) (xs : List LabelledItem)
    → groups_of (x ∷ xs) ≡ cut_after x (leading_with x.label xs) xs
grouped_after x [] = refl
grouped_after x (y ∷ ys) = elim (y.label.0 == x.label.0) as (λ b. (y.label.0 == x.label.0) ≡ b
    → put_before x (groups_of (y ∷ ys)) ≡ cut_after x (cond b (leading_with x.label ys + 1) 0)
    (y ∷ ys)) [
      | true ↦ λ is.
          let n = leading_with x.label ys in
          let same = same_label y.label x.label is in
          let next : suc n ≡ n + 1 = omega arith in
          let rest : groups_of (y ∷ ys) ≡ cut_after y n ys =
          grouped_after y ys ∙ ap (λ (l : Label). cut_after y (leading_with l ys) ys) same in
          ap (put_before x) rest
          ∙ ap (λ (b : Bool). cond b
          ((y.label, x.item ∷ y.item ∷ items_in (take n ys)) ∷ groups_of (drop n ys))
          ((x.label, x.item ∷ []) ∷ cut_after y n ys)) is
          ∙ ap (λ (l : Label). let g : Group = (l, x.item ∷ y.item ∷ items_in (take n ys)) in
          g ∷ groups_of (drop n ys))
          same
          ∙ ap (λ (m : ℕ). cut_after x m (y ∷ ys)) next
      | false ↦ λ is.
          let n = leading_with y.label ys in
          let rest = grouped_after y ys in
          ap (put_before x) rest
          ∙ ap (λ (b : Bool). cond b
          ((y.label, x.item ∷ y.item ∷ items_in (take n ys)) ∷ groups_of (drop n ys))
          ((x.label, x.item ∷ []) ∷ cut_after y n ys)) is
          ∙ ap (λ (gs : List Group). let g : Group = (x.label, x.item ∷ []) in g ∷ gs) (sym rest)
    ] refl

-- the first group is the items at the front that have the first label
pub grouped_cut : (x : LabelledItem) (rest : List LabelledItem) (n : ℕ)
    → n ≡ leading_with x.label (x ∷ rest)
    → groups_of (x ∷ rest) ≡ (x.label, items_in (take n (x ∷ rest))) ∷ groups_of (drop n (x ∷ rest))
grouped_cut x rest n is =
    let leads : leading_with x.label (x ∷ rest) ≡ leading_with x.label rest + 1 =
    ap (λ (b : Bool). cond b (leading_with x.label rest + 1) 0) (eq-eqb x.label.0 x.label.0 refl) in
    let long : suc (leading_with x.label rest) ≡ n = omega (arith, is, leads) in
    grouped_after x rest
    ∙ ap (λ (m : ℕ). (let g : Group = (x.label, items_in (take m (x ∷ rest))) in g)
    ∷ groups_of (drop m (x ∷ rest))) long

-- one turn moves a group from the rest to the groups so far
pub group_passed : (all rest : List LabelledItem) (x : LabelledItem) (n : ℕ)
    (before after : List Group) (its : List Item)
    (front others : List LabelledItem) → Some x ≡ slice_get rest 0 → n ≡ leading_with x.label rest
    → front ≡ take n rest → others ≡ drop n rest → its ≡ items_in front
    → before ++ groups_of rest ≡ groups_of all → after ≡ before ++ (x.label, its) ∷ []
    → after ++ groups_of others ≡ groups_of all
group_passed all [] x n before after its front others first count led back are so given =
    absurd (cc)
group_passed all (y ∷ rest) x n before after its front others first count led back are so given =
    let same = same_Some x y first in
    let cut = grouped_cut y rest n
    (count ∙ ap (λ (z : LabelledItem). leading_with z.label (y ∷ rest)) same) in
    let g : Group = (x.label, its) in
    let h : Group = (y.label, items_in (take n (y ∷ rest))) in
    let one : g ≡ h = λ i. ((same i).label, (are ∙ ap items_in led) i) in
    ap (λ (gs : List Group). gs ++ groups_of others) given
    ∙ append_assoc before (g ∷ []) (groups_of others)
    ∙ ap (λ (k : Group). before ++ (k ∷ groups_of others)) one
    ∙ ap (λ (l : List LabelledItem). before ++ (h ∷ groups_of l)) back
    ∙ ap (λ (gs : List Group). before ++ gs) (sym cut)
    ∙ so
