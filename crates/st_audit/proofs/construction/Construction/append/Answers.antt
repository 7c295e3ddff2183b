-- The outcome of each item is that of its move, and leads to the counts after it.
use Rattle.std.proofs.Common.{◌≡◌, ◌∷◌, arith, Some, take, length, sym, ◌∙◌, ap, subst}
use Rattle.std.proofs.lemmas.Option.{same_Some, slice_get-get_or}
use Rattle.std.proofs.lemmas.Result.{IfOk-weaker}
use Rattle.st_core.proofs.ForCallers.{all_at}
use Rattle.st_order.specs.declared.item.Item.{Item}
use Rattle.st_order.specs.declared.item.Item.TheVariants as item
use Rattle.st_order.specs.Items.{event_of}
use Rattle.st_plan.specs.Moves.{earlier_of, move_by}
use Rattle.st_plan.specs.Plain.{event_count}
use Rattle.st_plan.proofs.ForCallers.{order_there, IsThere}
use Rattle.st_audit.specs.Progress.{item_turn, AreTold, IsCountedAs, Meets, SaysNothing}
use Rattle.st_audit.proofs.ItemPlaces.{event_there}
use Rattle.st_audit.proofs.MoveOutcomes.{hidden_turn_is, report_turn_is, told_below}
use Rattle.st_audit.proofs.NextItem.{next_so_far, on_ok}
use Rattle.st_audit.proofs.ToldCounts.{told_hidden, told_next}
use Rattle.st_audit.proofs.construction.Construction.append.Goals as goal

pub returns-in-Reported-clause-exact : goal.returns-in-Reported-clause-exact
returns-in-Reported-clause-exact g c = λ x e at there.
    let given = c.requires.prepared in
    let streams = c.args.streams.now in
    let xs = c.args.items.now in
    let n = c.args.number in
    let p = c.in-Reported.pid in
    let i = c.in-Reported.index in
    let old = c.args.self.now in
    let new = c.report.new.self in
    let marks = g.M.Tells.marks c.args.marks.now in
    let earlier = earlier_of streams (take n xs) in
    let here = slice_get-get_or xs n _ c.requires.within
    ∙ ap (λ (x : Item). Some x) c.in-Reported.is in
    let same : item.Reported p i ≡ x = same_Some (item.Reported p i) x (sym here ∙ at) in
    let below = told_below streams p xs n in
    let counted : IsCountedAs streams old.told.items p (event_count p earlier) =
    λ k found. c.requires.so_far.told k p found (omega (arith, c.ranges.number)) in
    subst (λ (y : Item). event_of streams y ≡ Some e
    → Meets {T = Unit {0}} SaysNothing (item_turn streams marks old earlier (move_by y e)) old
    c.report.result new) same
    (λ found. subst (λ t. Meets {T = Unit {0}} SaysNothing t old c.report.result new)
    (report_turn_is streams marks earlier old c.requires.so_far p i e)
    (c.report.ensures.exact e (event_count p earlier) found given.paired counted)) there

pub returns-in-Reported-clause-so_far : goal.returns-in-Reported-clause-so_far
returns-in-Reported-clause-so_far g c =
    let given = c.requires.prepared in
    let streams = c.args.streams.now in
    let rising = given.are_streams.draft.rising in
    let xs = c.args.items.now in
    let n = c.args.number in
    let p = c.in-Reported.pid in
    let i = c.in-Reported.index in
    let old = c.args.self.now in
    let new = c.report.new.self in
    let marks = g.M.Tells.marks c.args.marks.now in
    let earlier = earlier_of streams (take n xs) in
    let x = item.Reported p i in
    let here = slice_get-get_or xs n _ c.requires.within
    ∙ ap (λ (x : Item). Some x) c.in-Reported.is in
    let found = event_there streams x
    (all_at (IsThere streams) xs n x (order_there streams rising xs given.order)
    here) in
    let e = found.0 in
    let below = told_below streams p xs n in
    let counted : IsCountedAs streams old.told.items p (event_count p earlier) =
    λ k at. c.requires.so_far.told k p at (omega (arith, c.ranges.number)) in
    let met = subst (λ t. Meets {T = Unit {0}} SaysNothing t old c.report.result new)
    (report_turn_is streams marks earlier old c.requires.so_far p i e)
    (c.report.ensures.exact e (event_count p earlier) found.1 given.paired counted) in
    next_so_far streams marks xs n old new c.requires.so_far rising given.order
    given.paired.accepted x e here
    found.1 c.report.result met (c.report.ensures.skipped e found.1)
    (c.report.ensures.told ∙ c.requires.so_far.listed)
    (IfOk-weaker c.report.result _ (λ u. AreTold streams (move_by x e ∷ earlier) new.told.items)
    (λ u tells. told_next streams earlier old.told.items new.told.items p i e rising
    c.requires.so_far.told tells)
    c.report.ensures.tells)

pub returns-in-Hidden-clause-exact : goal.returns-in-Hidden-clause-exact
returns-in-Hidden-clause-exact g c = λ x e at there.
    let streams = c.args.streams.now in
    let xs = c.args.items.now in
    let n = c.args.number in
    let p = c.in-Hidden.pid in
    let i = c.in-Hidden.index in
    let old = c.args.self.now in
    let new = c.send_hidden.new.self in
    let marks = g.M.Tells.marks c.args.marks.now in
    let earlier = earlier_of streams (take n xs) in
    let here = slice_get-get_or xs n _ c.requires.within
    ∙ ap (λ (x : Item). Some x) c.in-Hidden.is in
    let same : item.Hidden p i ≡ x = same_Some (item.Hidden p i) x (sym here ∙ at) in
    subst (λ (y : Item). event_of streams y ≡ Some e
    → Meets {T = Unit {0}} SaysNothing (item_turn streams marks old earlier (move_by y e)) old
    c.send_hidden.result new)
    same
    (λ found. subst (λ t. Meets {T = Unit {0}} SaysNothing t old c.send_hidden.result new)
    (hidden_turn_is streams marks earlier old c.requires.so_far p i e)
    (c.send_hidden.ensures.exact e found)) there

pub returns-in-Hidden-clause-so_far : goal.returns-in-Hidden-clause-so_far
returns-in-Hidden-clause-so_far g c =
    let given = c.requires.prepared in
    let streams = c.args.streams.now in
    let rising = given.are_streams.draft.rising in
    let xs = c.args.items.now in
    let n = c.args.number in
    let p = c.in-Hidden.pid in
    let i = c.in-Hidden.index in
    let old = c.args.self.now in
    let new = c.send_hidden.new.self in
    let marks = g.M.Tells.marks c.args.marks.now in
    let earlier = earlier_of streams (take n xs) in
    let x = item.Hidden p i in
    let here = slice_get-get_or xs n _ c.requires.within
    ∙ ap (λ (x : Item). Some x) c.in-Hidden.is in
    let found = event_there streams x
    (all_at (IsThere streams) xs n x (order_there streams rising xs given.order)
    here) in
    let e = found.0 in
    let met = subst (λ t. Meets {T = Unit {0}} SaysNothing t old c.send_hidden.result new)
    (hidden_turn_is streams marks earlier old c.requires.so_far p i e)
    (c.send_hidden.ensures.exact e found.1) in
    let kept = sym c.send_hidden.ensures.told in
    next_so_far streams marks xs n old new c.requires.so_far rising given.order
    given.paired.accepted x e here
    found.1 c.send_hidden.result met (c.send_hidden.ensures.skipped e found.1)
    (ap (λ t. length t.items) c.send_hidden.ensures.told ∙ c.requires.so_far.listed)
    (on_ok c.send_hidden.result (AreTold streams (move_by x e ∷ earlier) new.told.items)
    (subst (λ t. AreTold streams (move_by x e ∷ earlier) t.items) kept
    (told_hidden streams earlier old.told.items p i e c.requires.so_far.told)))
