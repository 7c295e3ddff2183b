-- The first acts run, and then each item's turn leads the construction on, or ends it as the course
-- of the items ends.
use Rattle.std.proofs.Common.{◌≡◌, length, rules, arith, Some, IfOk, IfSome, sym, ◌∙◌, subst}
use Rattle.std.proofs.lemmas.Option.{IfSome_then}
use Rattle.st_check.specs.Progress.{HasPassed}
use Rattle.st_audit.specs.Construction.{IsFoundAt, Judged}
use Rattle.st_audit.specs.declared.construction.Halt.TheVariants as halt
use Rattle.st_audit.proofs.Course.{begins_course, course_ends, some_item, IsOnCourse}
use Rattle.st_audit.proofs.FoundInOrder.{found_too_wide, found_uncaused, goes_on_course}
use Rattle.st_audit.proofs.FoundInOrder.{stops_there}
use Rattle.st_audit.proofs.Track.{tracers_begin, opening_memory}
use Rattle.st_audit.proofs.auditing.finding_in_order.Goals as goal

pub returns-in-Err : goal.returns-in-Err
returns-in-Err g c =
    let same : c.in-Err.field-0 ≡ halt.Memory =
    opening_memory c.args.streams.now c.args.pids.now c.requires.pids c.in-Ok.construction
    c.open.new.self
    c.in-Ok.ensures.world c.in-Err.field-0 c.in-Err.ensures.exact in
    search rules

pub loop-number-init : goal.loop-number-init
loop-number-init g c =
    let top = g.row.TOP in
    let streams = c.args.streams.now in
    let xs = c.args.items.now in
    let now = c.open.new.self in
    let b = tracers_begin streams c.args.pids.now c.requires.pids c.in-Ok.construction now
    c.in-Ok.ensures.world
    c.in-Ok.ensures.acts c.in-Ok-open.ensures.exact in
    record {
      so_far = c.in-Ok-open.ensures.so_far streams c.in-Ok.ensures.so_far;
      way = subst (IsOnCourse top streams xs 0 now.world) (sym b.put)
          (begins_course top streams xs now.world b.outcomes
          (some_item (length xs) (sym c.is_empty.ensures ∙ c.if-is_empty.false)) b.runs b.after);
      matched = c.in-Ok-open.ensures.matched;
    }

pub loop-number-preserved : goal.loop-number-preserved
loop-number-preserved g c =
    record {
      so_far = c.in-Ok-append.ensures.so_far;
      way = goes_on_course c.requires.prepared c.loop-number.number c.loop-number-test.true
          c.loop-number.construction
          c.loop-number.invariant.way tt c.append.new.self c.in-Ok-append.ensures.exact;
      matched = c.in-Ok-append.ensures.matched;
    }

pub returns-in-Err-Uncaused : goal.returns-in-Err-Uncaused
returns-in-Err-Uncaused g c =
    record {
      exact = found_uncaused c.requires.prepared c.loop-number.number c.loop-number-test.true
          c.loop-number.construction c.loop-number.invariant.way c.place-index.result
          c.place-index.ensures
          c.in-Err-Uncaused.field-0 c.append.new.self c.in-Err-Uncaused.ensures.exact
          c.in-Err-Uncaused.field-0-is;
    }

pub returns-in-Err-TooWide : goal.returns-in-Err-TooWide
returns-in-Err-TooWide g c =
    record {
      exact = found_too_wide c.requires.prepared c.loop-number.number c.loop-number-test.true
          c.loop-number.construction c.loop-number.invariant.way c.place-index.result
          c.place-index.ensures
          c.in-Err-TooWide.field-0 c.append.new.self c.in-Err-TooWide.ensures.exact
          c.in-Err-TooWide.field-0-is;
    }

pub returns-in-Err-Stopped : goal.returns-in-Err-Stopped
returns-in-Err-Stopped g c =
    let top = g.row.TOP in
    let streams = c.args.streams.now in
    let at = c.place-index.result in
    let found = c.judge-in-Err-Stopped.result in
    let ends = stops_there c.requires.prepared c.loop-number.number c.loop-number-test.true
    c.loop-number.construction
    c.loop-number.invariant.way at c.place-index.ensures c.in-Err-Stopped.field-0 c.append.new.self
    c.in-Err-Stopped.ensures.exact c.in-Err-Stopped.field-0-is in
    let judged = subst (λ acts. IfOk found (IsFoundAt top streams (Judged acts (Some at))))
    c.into_acts-in-Err-Stopped.ensures c.judge-in-Err-Stopped.ensures.exact in
    record { exact = subst (λ end. IfOk found (IsFoundAt top streams end)) ends judged }

pub finding_at_end-requires : goal.finding_at_end-requires
finding_at_end-requires g c =
    let top = g.row.TOP in
    let streams = c.args.streams.now in
    let now = c.loop-number.construction in
    let passed = IfSome_then now.comparison c.loop-number.invariant.matched
    (λ x passes. (now.world, passes)) in
    subst (λ acts. IfSome c.into_parts-acts.result.1 (HasPassed top streams acts))
    (sym c.into_parts-acts.ensures.acts)
    (subst (λ x. IfSome x (HasPassed top streams now.acts))
    (sym c.into_parts-acts.ensures.comparison) passed)

pub returns : goal.returns
returns g c =
    let top = g.row.TOP in
    let streams = c.args.streams.now in
    let xs = c.args.items.now in
    let n = c.loop-number.number in
    let now = c.loop-number.construction in
    let at = c.place-2.result in
    let some = some_item (length xs) (sym c.is_empty.ensures ∙ c.if-is_empty.false) in
    let ends = course_ends top streams xs n _ now.world now.acts at c.loop-number.invariant.way
    (omega arith) some
    c.place-2.ensures in
    let found = c.finding_at_end.result in
    let judged = subst (λ acts. IfOk found (IsFoundAt top streams (Judged acts (Some at))))
    c.into_parts-acts.ensures.acts c.finding_at_end.ensures.exact in
    record { exact = subst (λ end. IfOk found (IsFoundAt top streams end)) ends judged }
