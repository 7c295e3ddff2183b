-- The lines follow each other: those of the lanes by number, then those of the items that have the
-- label.
use Rattle.std.proofs.Common.{◌≡◌, ℕ, ◌+◌, ◌<◌, List, [], ◌∷◌, ◌++◌, length, take, drop, get_or}
use Rattle.std.proofs.Common.{arith}
use Rattle.std.proofs.Common.{refl, sym, ap, subst, ◌∙◌, append_assoc, Bool, Option, Some, None}
use Rattle.std.specs.List.{flat_map, cons_option}
use Rattle.std.proofs.lemmas.List.{append-nil, take_more, length-take, take-append-drop}
use Rattle.st_core.specs.declared.types.Pid.{Pid}
use Rattle.st_core.specs.declared.types.Label.{Label}
use Rattle.st_core.specs.Run.{Stream}
use Rattle.st_order.specs.declared.item.Item.{Item}
use Rattle.st_text.specs.Writing.{Goes, WritesPart}
use Rattle.st_text.proofs.ForCallers.{goes_then, part_longer, part_then}
use Rattle.st_chart.specs.declared.charted_item.ChartedItem.{ChartedItem}
use Rattle.st_chart.specs.Chart.{charted_of, all_charted, item_line, lane_line, lane_lines}
use Rattle.st_chart.specs.Parts.{line_in}

-- the numbers of lanes go on after those of the lanes before
pub lanes_then : (k : ℕ) (ps qs : List Pid)
    → lane_lines k (ps ++ qs) ≡ lane_lines k ps ++ lane_lines (k + length ps) qs
lanes_then k [] qs = ap (λ n. lane_lines n qs) (let e : k ≡ k + 0 = omega arith in e)
lanes_then k (p ∷ ps) qs =
    let next : k + 1 + length ps ≡ k + length (p ∷ ps) = omega arith in
    ap (λ (t : List ℕ). lane_line k p ++ t) (lanes_then (k + 1) ps qs)
    ∙ sym (append_assoc (lane_line k p) (lane_lines (k + 1) ps) (lane_lines (k + 1 + length ps) qs))
    ∙ ap (λ n. lane_line k p ++ lane_lines (k + 1) ps ++ lane_lines n qs) next

-- the line of one more lane follows those before
lane_more : (ps : List Pid) (i : ℕ) (d : Pid) → i < length ps
    → lane_lines 1 (take (i + 1) ps) ≡ lane_lines 1 (take i ps) ++ lane_line (i + 1) (get_or ps i d)
lane_more ps i d lt =
    let number : 1 + length (take i ps) ≡ i + 1 = omega (arith, lt, length-take i ps) in
    ap (lane_lines 1) (take_more ps i d lt) ∙ lanes_then 1 (take i ps) (get_or ps i d ∷ [])
    ∙ ap (λ n. lane_lines 1 (take i ps) ++ lane_lines n (get_or ps i d ∷ [])) number
    ∙ ap (λ (t : List ℕ). lane_lines 1 (take i ps) ++ t)
    (append-nil (lane_line (i + 1) (get_or ps i d)))

pub lanes_split : (ps : List Pid) (i : ℕ)
    → lane_lines 1 (take i ps) ++ lane_lines (1 + length (take i ps)) (drop i ps) ≡ lane_lines 1 ps
lanes_split ps i = sym (lanes_then 1 (take i ps) (drop i ps))
    ∙ ap (lane_lines 1) (take-append-drop i ps)

pub lanes_more : {S : Type 0} (puts : S → List ℕ → S → Type 0) (failed : S → Bool) (ps : List Pid)
    (i : ℕ) (d : Pid)
    {a b c : S} {x y z : List ℕ}
    → i < length ps → Goes puts failed (lane_lines 1 (take i ps)) a b x y
    → Goes puts failed (lane_line (i + 1) (get_or ps i d)) b c y z
    → Goes puts failed (lane_lines 1 (take (i + 1) ps)) a c x z
lanes_more puts failed ps i d {a} {c} {x} {z} lt g h =
    subst (λ (t : List ℕ). Goes puts failed t a c x z) (sym (lane_more ps i d lt))
    (goes_then puts failed (lane_lines 1 (take i ps)) (lane_line (i + 1) (get_or ps i d)) g h)

-- if the next line fails, a prefix of all lines was written
pub lanes_failed : {S : Type 0} (puts : S → List ℕ → S → Type 0) (failed : S → Bool) (ps : List Pid)
    (i : ℕ) (d : Pid)
    {a b c : S} {x y : List ℕ}
    → i < length ps → Goes puts failed (lane_lines 1 (take i ps)) a b x y
    → WritesPart puts failed (y ++ lane_line (i + 1) (get_or ps i d)) b c
    → WritesPart puts failed (x ++ lane_lines 1 ps) a c
lanes_failed puts failed ps i d {a} {c} {x} lt g h =
    let rest = lane_lines (1 + length (take (i + 1) ps)) (drop (i + 1) ps) in
    let part = part_then puts failed (lane_lines 1 (take i ps)) (lane_line (i + 1) (get_or ps i d))
    g h in
    let upto = subst (λ (t : List ℕ). WritesPart puts failed (x ++ t) a c)
    (sym (lane_more ps i d lt)) part in
    subst (λ (t : List ℕ). WritesPart puts failed (x ++ t) a c) (lanes_split ps (i + 1))
    (part_longer puts failed (lane_lines 1 (take (i + 1) ps)) rest x upto)

module _ (streams : List Stream) (label : Label) (caused : List Stream) (ps : List Pid) where
  abbrev pub line_by : Option ChartedItem → List ℕ
  line_by o = elim o [ None ↦ [] | Some c ↦ item_line caused ps c ]

  -- an item's line is that of the item with its event, if it is shown
  pub line_of : (x : Item) (o : Option ChartedItem) → charted_of streams label x ≡ o
      → line_in streams label caused ps x ≡ line_by o
  line_of x o is = ap line_by is

  one_line : (o : Option ChartedItem) (rest : List ChartedItem)
      → line_by o ++ flat_map (item_line caused ps) rest
      ≡ flat_map (item_line caused ps) (cons_option o rest)
  one_line None rest = refl
  one_line (Some c) rest = refl

  -- the lines of all items are those of the items that have the label
  pub lines_are : (items : List Item)
      → flat_map (line_in streams label caused ps) items
      ≡ flat_map (item_line caused ps) (all_charted streams items label)
  lines_are [] = refl
  lines_are (x ∷ items) =
      ap (λ (t : List ℕ). line_in streams label caused ps x ++ t) (lines_are items)
      ∙ one_line (charted_of streams label x) (all_charted streams items label)
