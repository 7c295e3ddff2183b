-- Items by label: for each label that an item has, the items that have it (own profile).
use Rattle.std.specs.Prelude.{◌≡◌, ◌==◌, ◌<◌, Bool, false, List, [], ◌∷◌, filter, Option, Some}
use Rattle.std.specs.Prelude.{None, option_map}
use Rattle.std.specs.List.{AllByRecursion, list_any}
use Rattle.st_core.specs.declared.types.Label.{Label}
use Rattle.st_core.specs.Run.{Stream}
use Rattle.st_order.specs.declared.item.Item.{Item}
use Rattle.st_order.specs.Items.{event_of}

-- the label of the event that an item is about; none if no event is at the item's place
abbrev pub label_of : List Stream → Item → Option Label
label_of streams x = option_map (λ e. e.label) (event_of streams x)

-- the item has this label
abbrev pub item_has_label : List Stream → Label → Item → Bool
item_has_label streams label x =
    elim (label_of streams x) [ None ↦ false | Some l ↦ l.0 == label.0 ]

-- the labels rise strictly: the first is below all the others, and the others rise
abbrev pub LabelsRise : List (Label × List Item) → Type 0
LabelsRise [] = Unit {0}
LabelsRise (g ∷ gs) = AllByRecursion (λ h. g.0.0 < h.0.0) gs × LabelsRise gs

-- items by label: the labels rise strictly, a label is there exactly if an item has it,
-- and with each label are the items that have it, in their order
pub record IsByLabel (streams : List Stream) (xs : List Item)
    (groups : List (Label × List Item)) : Type 0 where
  pub rises : LabelsRise groups
  pub labels : (label : Label)
      → list_any (λ g. g.0.0 == label.0) groups ≡ list_any (item_has_label streams label) xs
  pub lists : AllByRecursion (λ g. g.1 ≡ filter (item_has_label streams g.0) xs) groups
