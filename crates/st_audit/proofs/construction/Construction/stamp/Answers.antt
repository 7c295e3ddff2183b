-- The process is made ready and then stamps: these acts come in a row, and no reason holds of
-- them.
use Rattle.std.proofs.Common.{◌≡◌, ◌+◌, cond, None, Some, [], ◌∷◌, ◌++◌, Err, refl, sym, ◌∙◌, ap}
use Rattle.std.proofs.Common.{subst}
use Rattle.st_plan.specs.Build.{ready}
use Rattle.st_audit.specs.Progress.{acts_turn, is_too_wide, stamp_turn, Meets, SaysNothing}
use Rattle.st_audit.specs.Progress.{TellsLast, TriesAct}
use Rattle.st_audit.proofs.Attempts.{attempt_acts, done_by, from_same, halts_before, one_more}
use Rattle.st_audit.proofs.Attempts.{tries_in, Performed}
use Rattle.st_audit.proofs.MoveOutcomes.{on_err, stamp_skip_is, stamp_turn_is, within_bounds}
use Rattle.st_audit.proofs.MoveOutcomes.{within_count}
use Rattle.st_audit.proofs.NextItem.{on_ok}
use Rattle.st_audit.proofs.construction.Construction.stamp.Goals as goal

pub returns-in_err-perform_all-clause-exact : goal.returns-in_err-perform_all-clause-exact
returns-in_err-perform_all-clause-exact g c =
    let top = g.row.TOP in
    let start = c.in-Some.start in
    let e = c.args.event.now in
    let p = c.args.pid in
    let f = c.args.flags in
    let a = c.args.act in
    let old = c.args.self.now in
    let mid = record old { skipped = c.in-Some-with_skipped.skipped } in
    let new = c.perform_all.new.self in
    let h = c.in_err-perform_all.field-0.0 in
    let acts = ready p start e.label e.serial f in
    let planned : c.as_slice.result.now ≡ acts =
    c.as_slice.ensures.value ∙ c.in-Ok.ensures ∙ ap (λ xs. xs ++ acts) c.clear.ensures.items in
    let missed = c.in-Some-with_skipped.ensures
    ∙ ap (λ k. cond (is_too_wide old.skipped k) None (Some (k + old.skipped)))
    c.missing_count.ensures in
    let turn = stamp_turn_is old p e f a start (sym c.start.ensures ∙ c.in-Some.is)
    ∙ attempt_acts top old.world _ _ _ (acts ++ a ∷ [])
    (sym c.is_uncaused.ensures ∙ c.if-is_uncaused.false)
    (within_bounds _ _ _ missed) refl in
    let front : Meets {T = Unit {0}} SaysNothing (acts_turn top old.world acts) old (Err h) new =
    subst (λ xs. Meets {T = Unit {0}} SaysNothing (acts_turn top old.world xs) old (Err h) new)
    planned
    (from_same {T = Unit {0}} SaysNothing _ mid old (Err h) new refl refl
    c.in_err-perform_all.ensures.exact) in
    on_err c.from_residual.result h (λ r. Meets TellsLast (stamp_turn old p e f a) old r new)
    c.from_residual.ensures.1
    (subst (λ t. Meets TellsLast t old (Err h) new) (sym turn)
    (halts_before {T = Unit {0}} SaysNothing TellsLast acts (a ∷ []) old h new front))

pub returns-clause-exact : goal.returns-clause-exact
returns-clause-exact g c =
    let top = g.row.TOP in
    let start = c.in-Some.start in
    let e = c.args.event.now in
    let p = c.args.pid in
    let f = c.args.flags in
    let a = c.args.act in
    let old = c.args.self.now in
    let mid = record old { skipped = c.in-Some-with_skipped.skipped } in
    let between = c.perform_all.new.self in
    let new = c.perform.new.self in
    let acts = ready p start e.label e.serial f in
    let planned : c.as_slice.result.now ≡ acts =
    c.as_slice.ensures.value ∙ c.in-Ok.ensures ∙ ap (λ xs. xs ++ acts) c.clear.ensures.items in
    let missed = c.in-Some-with_skipped.ensures
    ∙ ap (λ k. cond (is_too_wide old.skipped k) None (Some (k + old.skipped)))
    c.missing_count.ensures in
    let turn = stamp_turn_is old p e f a start (sym c.start.ensures ∙ c.in-Some.is)
    ∙ attempt_acts top old.world _ _ _ (acts ++ a ∷ [])
    (sym c.is_uncaused.ensures ∙ c.if-is_uncaused.false)
    (within_bounds _ _ _ missed) refl in
    let made : Performed acts mid between = subst (λ xs. Performed xs mid between) planned
    (done_by {T = Unit {0}} SaysNothing c.as_slice.result.now mid tt between
    c.in_ok-perform_all.ensures.exact).made in
    subst (λ t. Meets TellsLast t old c.perform.result new) (sym turn)
    (from_same TellsLast _ mid old c.perform.result new refl refl
    (one_more acts a mid between c.perform.result new made c.perform.ensures.exact))

pub returns-in_default-ready-clause-exact : goal.returns-in_default-ready-clause-exact
returns-in_default-ready-clause-exact g c =
    let top = g.row.TOP in
    let start = c.in-Some.start in
    let e = c.args.event.now in
    let p = c.args.pid in
    let f = c.args.flags in
    let a = c.args.act in
    let old = c.args.self.now in
    let acts = ready p start e.label e.serial f in
    let missed = c.in-Some-with_skipped.ensures
    ∙ ap (λ k. cond (is_too_wide old.skipped k) None (Some (k + old.skipped)))
    c.missing_count.ensures in
    let turn = stamp_turn_is old p e f a start (sym c.start.ensures ∙ c.in-Some.is)
    ∙ attempt_acts top old.world _ _ _ (acts ++ a ∷ [])
    (sym c.is_uncaused.ensures ∙ c.if-is_uncaused.false)
    (within_bounds _ _ _ missed) refl in
    subst TriesAct (sym turn) (tries_in top old.world acts a [] _)

pub returns-clause-skipped : goal.returns-clause-skipped
returns-clause-skipped g c =
    let start = c.in-Some.start in
    let e = c.args.event.now in
    let old = c.args.self.now in
    let missed = c.in-Some-with_skipped.ensures
    ∙ ap (λ k. cond (is_too_wide old.skipped k) None (Some (k + old.skipped)))
    c.missing_count.ensures in
    let skip = stamp_skip_is old.world c.args.pid e start (sym c.start.ensures ∙ c.in-Some.is) in
    on_ok c.perform.result _ (c.perform.ensures.skipped ∙ c.in_ok-perform_all.ensures.skipped
    ∙ within_count _ _ _ missed ∙ ap (λ k. k + old.skipped) (sym skip))
