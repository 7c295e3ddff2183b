-- The act's report is compared with the event, and one is added to the count of its process.
use Rattle.std.proofs.Common.{◌≡◌, ◌<◌, arith, length, rules, slice_get, slice_set, ℕ, List, Err}
use Rattle.std.proofs.Common.{Some, ◌&&◌, not, refl, sym, ◌∙◌, ap, subst}
use Rattle.std.proofs.lemmas.Bool.{false≢true}
use Rattle.std.proofs.lemmas.Option.{same_Some, get_or_from_slice_get, slice_get-get_or}
use Rattle.st_core.specs.declared.types.Event.{Event}
use Rattle.st_pair.specs.Places.{is_stamp}
use Rattle.st_order.specs.declared.item.Item.TheVariants as item
use Rattle.st_plan.specs.Moves.{move_by}
use Rattle.st_audit.specs.declared.construction.Halt.TheVariants as halt
use Rattle.st_audit.specs.Progress.{if_told, is_below, report_turn, Meets, SaysNothing, TellsOne}
use Rattle.st_audit.specs.Progress.{WentThrough}
use Rattle.st_audit.proofs.ToldCounts.{not_missing, place_below, tells_one}
use Rattle.st_audit.proofs.MoveOutcomes.{err_meets, high_meets, late_meets, on_err, other_meets}
use Rattle.st_audit.proofs.MoveOutcomes.{through_meets}
use Rattle.st_audit.proofs.construction.Construction.report.Goals as goal

pub index-requires : goal.index-requires
index-requires g c =
    let below = place_below c.args.streams.now c.in-Some.place c.args.pid c.in-Some.ensures.found in
    let within : c.in-Some.place < length c.args.self.now.told.items =
    omega (arith, c.requires.told) in
    search rules

pub index_mut-requires : goal.index_mut-requires
index_mut-requires g c =
    let below = place_below c.args.streams.now c.in-Some.place c.args.pid c.in-Some.ensures.found in
    let same = ap (λ t. length t.items) c.act.ensures.told in
    let within : c.in-Some.place < length c.act.new.self.told.items =
    omega (arith, c.requires.told) in
    search rules

pub returns-clause-tells : goal.returns-clause-tells
returns-clause-tells g c =
    let streams = c.args.streams.now in
    let place = c.in-Some.place in
    let old = c.args.self.now.told.items in
    let at = c.in-Some.ensures.found in
    let below = place_below streams place c.args.pid at in
    let within : place < length old = omega (arith, c.requires.told) in
    let was : slice_get old place ≡ Some c.args.index =
    slice_get-get_or old place c.index.result.now within
    ∙ ap (λ (n : ℕ). Some n) (sym c.index.ensures ∙ c.if-index.false) in
    let same : old ≡ c.act.new.self.told.items = ap (λ t. t.items) (sym c.act.ensures.told) in
    subst (λ (xs : List ℕ). TellsOne streams c.args.pid c.args.index old
    (slice_set xs place c.saturating_add.result)) same
    (tells_one streams c.args.pid c.args.index place c.saturating_add.result old at was
    c.saturating_add.ensures)

pub returns-in_default-clause-exact : goal.returns-in_default-clause-exact
returns-in_default-clause-exact g c = λ e n at pairs counted.
    absurd (not_missing c.args.streams.now c.args.pid c.args.index e c.in_default.ensures.missing
    at)

pub returns-then-index-clause-exact : goal.returns-then-index-clause-exact
returns-then-index-clause-exact g c = λ e n at pairs counted.
    let old = c.args.self.now in
    let here = get_or_from_slice_get old.told.items c.in-Some.place n c.index.result.now
    (counted c.in-Some.place c.in-Some.ensures.found) in
    late_meets c.args.streams.now (g.M.Tells.marks c.args.marks.now) old n c.args.pid c.args.index e
    old
    (λ is. c.if-index.true (c.index.ensures ∙ here ∙ is)) refl

pub returns-then-is_high-clause-exact : goal.returns-then-is_high-clause-exact
returns-then-is_high-clause-exact g c = λ e n at pairs counted.
    let streams = c.args.streams.now in
    let marks = g.M.Tells.marks c.args.marks.now in
    let old = c.args.self.now in
    let p = c.args.pid in
    let i = c.args.index in
    let x = c.in-Some-event.event in
    let same : x ≡ e = same_Some x e (sym c.in-Some-event.is ∙ c.event.ensures ∙ at) in
    let here = get_or_from_slice_get old.told.items c.in-Some.place n c.index.result.now
    (counted c.in-Some.place c.in-Some.ensures.found) in
    let turn : n ≡ i = sym (c.index.ensures ∙ here) ∙ c.if-index.false in
    let now_told = ap (λ b. not b && (is_stamp x && not (is_below old.world p x)))
    c.is_told-is_told.ensures in
    subst (λ (e : Event). Meets {T = Unit {0}} SaysNothing
    (report_turn streams marks old n (move_by (item.Reported p i) e)) old (Err halt.Stopped) old)
    same
    (high_meets streams marks old n p i x old turn
    (sym now_told ∙ sym c.is_high.ensures ∙ c.if-is_high.true) refl)

pub returns-in_err-told-clause-exact : goal.returns-in_err-told-clause-exact
returns-in_err-told-clause-exact g c = λ e n at pairs counted.
    let streams = c.args.streams.now in
    let marks = g.M.Tells.marks c.args.marks.now in
    let old = c.args.self.now in
    let p = c.args.pid in
    let i = c.args.index in
    let x = c.in-Some-event.event in
    let same : x ≡ e = same_Some x e (sym c.in-Some-event.is ∙ c.event.ensures ∙ at) in
    let here = get_or_from_slice_get old.told.items c.in-Some.place n c.index.result.now
    (counted c.in-Some.place c.in-Some.ensures.found) in
    let turn : n ≡ i = sym (c.index.ensures ∙ here) ∙ c.if-index.false in
    let now_told = ap (λ b. not b && (is_stamp x && not (is_below old.world p x)))
    c.is_told-is_told.ensures in
    let low = sym now_told ∙ sym c.is_high.ensures ∙ c.if-is_high.false in
    let new = c.act.new.self in
    let h = c.in_err-told.field-0.0 in
    on_err c.from_residual.result h
    (λ r. Meets {T = Unit {0}} SaysNothing
    (report_turn streams marks old n (move_by (item.Reported p i) e)) old r new)
    c.from_residual.ensures.1
    (subst (λ (e : Event). Meets {T = Unit {0}} SaysNothing
    (report_turn streams marks old n (move_by (item.Reported p i) e)) old (Err h) new) same
    (err_meets streams marks old n p i x new turn low h
    (c.in_err-told.ensures.exact streams pairs)))

pub returns-then-not-is_report-clause-exact : goal.returns-then-not-is_report-clause-exact
returns-then-not-is_report-clause-exact g c = λ e n at pairs counted.
    let streams = c.args.streams.now in
    let marks = g.M.Tells.marks c.args.marks.now in
    let old = c.args.self.now in
    let p = c.args.pid in
    let i = c.args.index in
    let x = c.in-Some-event.event in
    let same : x ≡ e = same_Some x e (sym c.in-Some-event.is ∙ c.event.ensures ∙ at) in
    let here = get_or_from_slice_get old.told.items c.in-Some.place n c.index.result.now
    (counted c.in-Some.place c.in-Some.ensures.found) in
    let turn : n ≡ i = sym (c.index.ensures ∙ here) ∙ c.if-index.false in
    let now_told = ap (λ b. not b && (is_stamp x && not (is_below old.world p x)))
    c.is_told-is_told.ensures in
    let low = sym now_told ∙ sym c.is_high.ensures ∙ c.if-is_high.false in
    let new = c.act.new.self in
    let told = c.in_ok-told.told in
    let other : told.report ≡ if_told (marks p i) x
    → ⊥ = λ is. false≢true (sym c.if-not-is_report.true
    ∙ c.is_report.ensures.1 (is ∙ ap (λ b. if_told b x) (sym c.is_told-is_told.ensures))) in
    subst (λ (e : Event). Meets {T = Unit {0}} SaysNothing
    (report_turn streams marks old n (move_by (item.Reported p i) e)) old (Err halt.Stopped) new)
    same
    (other_meets streams marks old n p i x new turn low told
    (c.in_ok-told.ensures.exact streams pairs) other)

pub returns-clause-exact : goal.returns-clause-exact
returns-clause-exact g c = λ e n at pairs counted.
    let streams = c.args.streams.now in
    let marks = g.M.Tells.marks c.args.marks.now in
    let old = c.args.self.now in
    let p = c.args.pid in
    let i = c.args.index in
    let x = c.in-Some-event.event in
    let same : x ≡ e = same_Some x e (sym c.in-Some-event.is ∙ c.event.ensures ∙ at) in
    let here = get_or_from_slice_get old.told.items c.in-Some.place n c.index.result.now
    (counted c.in-Some.place c.in-Some.ensures.found) in
    let turn : n ≡ i = sym (c.index.ensures ∙ here) ∙ c.if-index.false in
    let now_told = ap (λ b. not b && (is_stamp x && not (is_below old.world p x)))
    c.is_told-is_told.ensures in
    let low = sym now_told ∙ sym c.is_high.ensures ∙ c.if-is_high.false in
    let mid = c.act.new.self in
    let told = c.in_ok-told.told in
    let reports : told.report ≡ if_told (marks p i) x =
    c.is_report.ensures.0 c.if-not-is_report.false
    ∙ ap (λ b. if_told b x) c.is_told-is_told.ensures in
    let went = subst (λ (e : Event). WentThrough {T = Unit {0}} SaysNothing
    (report_turn streams marks old n (move_by (item.Reported p i) e)) old tt mid) same
    (through_meets streams marks old n p i x mid turn low told
    (c.in_ok-told.ensures.exact streams pairs) reports) in
    record {
      acts = went.acts;
      outcomes = went.outcomes;
      through = went.through;
      said = tt;
      after = went.after;
      put = went.put;
    }
