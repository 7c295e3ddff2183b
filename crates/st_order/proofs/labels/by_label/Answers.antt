-- The groups of the sorted list are the items by label.
use Rattle.std.proofs.Common.{rules, sym, ◌∙◌, subst, List}
use Rattle.std.specs.List.Sorted.{IsStableByKey}
use Rattle.std.specs.Ordering.{nat_cmp}
use Rattle.std.proofs.lemmas.List.Sorted.{answers_always}
use Rattle.rayon.proofs.ListFacts.{IfOk-then}
use Rattle.st_order.specs.declared.labels.LabelledItem.{LabelledItem}
use Rattle.st_order.specs.Labels.{IsByLabel}
use Rattle.st_order.proofs.Groups.{number_of, grouped_by_label}
use Rattle.st_order.proofs.labels.by_label.Goals as goal

pub returns : goal.returns
returns g c =
    let streams = c.args.streams.now in
    let items = c.args.items.now in
    let sorted = c.in_ok-par_sort_by_key.ensures.sorted number_of
    (answers_always _ _ _ (λ f a r g h. search rules)) in
    let stable = c.in_ok-par_sort_by_key.ensures.stable number_of
    (answers_always _ _ _ (λ f a r g h. search rules)) in
    let start = c.as_mut_slice-sorted.ensures.value ∙ c.in_ok-labelled.ensures in
    let after = c.par_sort_by_key.new.s in
    let kept = subst (λ (xs : List LabelledItem). IsStableByKey number_of nat_cmp xs after) start
    stable in
    IfOk-then c.groups_of.result _ _ c.groups_of.ensures (λ v h.
    subst (IsByLabel streams items) (sym h) (grouped_by_label streams items after sorted kept))
