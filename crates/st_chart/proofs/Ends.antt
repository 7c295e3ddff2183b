-- A process is a lane exactly if it is an end of an item that has the label, whether all items are
-- gone through or only those that have the label.
use Rattle.std.proofs.Common.{◌≡◌, Bool, false, ◌||◌, List, [], ◌∷◌}
use Rattle.std.proofs.Common.{refl, sym, ap, ◌∙◌, filter, cond, Option, Some, None}
use Rattle.std.specs.List.{list_any, cons_option}
use Rattle.st_core.specs.declared.types.Pid.{Pid}
use Rattle.st_core.specs.declared.types.Label.{Label}
use Rattle.st_core.specs.Run.{Stream, pids_of}
use Rattle.st_order.specs.declared.item.Item.{Item}
use Rattle.st_chart.specs.declared.charted_item.ChartedItem.{ChartedItem}
use Rattle.st_chart.specs.Chart.{charted_of, all_charted, is_end, lanes}
use Rattle.st_chart.specs.Parts.{is_end_in}

module _ (streams : List Stream) (label : Label) where
  abbrev end_by : Pid → Option ChartedItem → Bool
  end_by p o = elim o [ None ↦ false | Some c ↦ is_end c.event p ]

  one_charted : (p : Pid) (o : Option ChartedItem) (rest : List ChartedItem)
      → list_any (λ x. is_end x.event p) (cons_option o rest)
      ≡ (end_by p o || list_any (λ x. is_end x.event p) rest)
  one_charted p None rest = refl
  one_charted p (Some c) rest = refl

  any_charted : (p : Pid) (items : List Item)
      → list_any (λ x. is_end x.event p) (all_charted streams items label)
      ≡ list_any (is_end_in streams label p) items
  any_charted p [] = refl
  any_charted p (x ∷ items) =
      one_charted p (charted_of streams label x) (all_charted streams items label)
      ∙ ap (λ (b : Bool). is_end_in streams label p x || b) (any_charted p items)

  filter_same : (f g : Pid → Bool) → ((p : Pid) → f p ≡ g p) → (ps : List Pid)
      → filter f ps ≡ filter g ps
  filter_same f g same [] = refl
  filter_same f g same (p ∷ ps) =
      ap (λ (b : Bool). cond b (p ∷ filter f ps) (filter f ps)) (same p)
      ∙ ap (λ (qs : List Pid). cond (g p) (p ∷ qs) qs) (filter_same f g same ps)

  -- the listed processes that are ends are the lanes
  pub lanes_are : (items : List Item) (f : Pid → Bool)
      → ((p : Pid) → f p ≡ list_any (is_end_in streams label p) items)
      → filter f (pids_of streams) ≡ lanes streams (all_charted streams items label)
  lanes_are items f same =
      filter_same f (λ p. list_any (λ x. is_end x.event p) (all_charted streams items label))
      (λ p. same p ∙ sym (any_charted p items)) (pids_of streams)
