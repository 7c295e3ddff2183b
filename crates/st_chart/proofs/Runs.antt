-- The marks of all lanes are those of the three parts into which the lanes are cut, one after the
-- other.
use Rattle.std.proofs.Common.{◌≡◌, ℕ, List, ◌++◌, take, drop, sym, ap, ◌∙◌}
use Rattle.std.specs.List.{flat_map}
use Rattle.std.proofs.lemmas.List.{take-append-drop}
use Rattle.std.proofs.lemmas.List.Concat.{flat_map-append}
use Rattle.st_core.specs.declared.types.Pid.{Pid}
use Rattle.st_chart.specs.declared.charted_item.ChartedItem.{ChartedItem}
use Rattle.st_chart.specs.Chart.{mark}

pub parts_marks : (x : ChartedItem) (ps front back left middle : List Pid) (m n : ℕ)
    → front ≡ take n ps
    → back ≡ drop n ps → left ≡ take m front → middle ≡ drop m front
    → flat_map (mark x) left ++ flat_map (mark x) middle ++ flat_map (mark x) back
    ≡ flat_map (mark x) ps
parts_marks x ps front back left middle m n is_front is_back is_left is_middle =
    let of = flat_map (mark x) in
    let halves : left ++ middle ≡ front =
    ap (λ (qs : List Pid). qs ++ middle) is_left ∙ ap (λ (qs : List Pid). take m front ++ qs)
    is_middle
    ∙ take-append-drop m front in
    let whole : front ++ back ≡ ps =
    ap (λ (qs : List Pid). qs ++ back) is_front ∙ ap (λ (qs : List Pid). take n ps ++ qs) is_back
    ∙ take-append-drop n ps in
    ap (λ (t : List ℕ). t ++ of back) (sym (flat_map-append (mark x) left middle) ∙ ap of halves)
    ∙ sym (flat_map-append (mark x) front back) ∙ ap of whole
