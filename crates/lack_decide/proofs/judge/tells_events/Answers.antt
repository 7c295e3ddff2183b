-- Each marked event is the next of the stream.
use Rattle.std.proofs.Common.{◌≡◌, ◌==◌, true, get_or, length, suc, ◌+◌, List, [], ◌∷◌, drop, refl}
use Rattle.std.proofs.Common.{sym, ◌∙◌, ap, arith, Bor}
use Rattle.std.proofs.lemmas.Bool.Decides.{nat_tests}
use Rattle.st_core.specs.declared.types.Event.{Event}
use Rattle.st_plan.specs.Marks.{told_events}
use Rattle.st_pair.proofs.ForCallers.{at_get_or, blank}
use Rattle.lack_needs.specs.Completions.{marked_with}
use Rattle.lack_needs.proofs.ForCallers.{told_end, told_more, untold_more}
use Rattle.lack_decide.proofs.judge.tells_events.Goals as goal

pub loop-i-preserved : goal.loop-i-preserved
loop-i-preserved c =
    let es = c.args.all.now in
    let ms = c.args.marks.now in
    let i = c.loop-i.i in
    let e = get_or es i blank in
    let at = at_get_or es i blank c.loop-i-test.true in
    let next : suc i ≡ i + 1 = omega arith in
    let later = ap (λ n. told_events (drop n (marked_with es ms))) next in
    elim c.if-is_marked.branch [
      | goal.then-is_marked+in-Some+else-not-is_same_event w ↦ λ is.
          let rest = ap (λ (r : Bor (List Event)). r.now) w.rest-is in
          let same = w.is_same_event.ensures.0 w.if-not-is_same_event.false in
          c.loop-i.invariant (told_more es ms i e at (sym c.is_marked.ensures ∙ w.if-is_marked.true)
          ∙ ap (λ xs. e ∷ xs) (later ∙ is ∙ rest) ∙ ap (λ x. x ∷ w.in-Some.others.now) (sym same)
          ∙ sym w.in-Some.ensures.cases.0)
      | goal.else-is_marked w ↦ λ is.
          let rest = ap (λ (r : Bor (List Event)). r.now) w.rest-is in
          c.loop-i.invariant (untold_more es ms i e at
          (sym c.is_marked.ensures ∙ w.if-is_marked.false)
          ∙ later ∙ is ∙ rest)
    ]

none_left : (xs : List Event) → (length xs == 0) ≡ true → [] ≡ xs
none_left [] is = refl
none_left (x ∷ xs) is =
    let zero : length (x ∷ xs) ≡ 0 = grind (arith, nat_tests, is) in
    absurd (omega (arith, zero))

pub returns : goal.returns
returns c = λ yes. c.loop-i.invariant
    (told_end c.args.all.now c.args.marks.now c.loop-i.i
    (let past = c.loop-i-test.false in let auto = c.loop-i.auto.i-end in omega arith)
    ∙ none_left c.loop-i.rest.now (sym c.is_empty.ensures ∙ yes))
