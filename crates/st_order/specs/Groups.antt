-- Items with their labels, cut into groups of one label.
use Rattle.std.specs.Prelude.{ℕ, ◌+◌, ◌==◌, List, [], ◌∷◌, Option, option_map, if◌then◌else◌}
use Rattle.st_core.specs.declared.types.Label.{Label}
use Rattle.st_core.specs.Run.{Stream}
use Rattle.st_order.specs.declared.item.Item.{Item}
use Rattle.st_order.specs.declared.labels.LabelledItem.{LabelledItem}
use Rattle.st_order.specs.Labels.{label_of}

-- an item with its label; none if no event is at its place
abbrev pub with_label : List Stream → Item → Option LabelledItem
with_label streams x = option_map (λ l. record { label = l; item = x }) (label_of streams x)

-- the number of items at the front that have this label
abbrev pub leading_with : Label → List LabelledItem → ℕ
leading_with label [] = 0
leading_with label (x ∷ xs) = if x.label.0 == label.0 then leading_with label xs + 1 else 0

-- the groups with x put before them: x joins the first group if it has x's label, else x becomes a
-- group of its own
abbrev pub put_before : LabelledItem → List (Label × List Item) → List (Label × List Item)
put_before x [] = (x.label, x.item ∷ []) ∷ []
put_before x (g ∷ gs) =
    if g.0.0 == x.label.0 then (g.0, x.item ∷ g.1) ∷ gs else (x.label, x.item ∷ []) ∷ g ∷ gs

-- the groups of neighbouring items with the same label, each group with its label
abbrev pub groups_of : List LabelledItem → List (Label × List Item)
groups_of [] = []
groups_of (x ∷ xs) = put_before x (groups_of xs)
