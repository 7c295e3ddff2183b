-- Each listed process is asked, and the others have no events.
use Rattle.std.proofs.Common.{◌≡◌, ◌≤◌, get_or, length, List, [], ◌∷◌, ◌++◌, false, Option}
use Rattle.std.proofs.Common.{Some, None, is_some, inl, inr, refl, sym, ◌∙◌, arith, ap, subst}
use Rattle.std.specs.List.{slice_get}
use Rattle.std.proofs.lemmas.Bool.{false≢true}
use Rattle.std.proofs.lemmas.Option.{same_Some}
use Rattle.st_core.specs.declared.types.Pid.{Pid}
use Rattle.st_core.specs.Run.{pids_of}
use Rattle.st_core.specs.Streams.{events_of}
use Rattle.st_core.proofs.ForCallers.{place_within, some_of}
use Rattle.node_streams.specs.Order.{next_event, turns}
use Rattle.node_streams.specs.Tables.{IsAt}
use Rattle.node_streams.proofs.Orders.{less_or_same}
use Rattle.node_streams.proofs.Turns.{any_process, done_here}
use Rattle.node_streams.proofs.order.events_left.Goals as goal
use Rattle.node_streams.proofs.order.events_left.Goals.{then-is_some+in_ok-push, else-is_some}
use Rattle.st_pair.proofs.ForCallers.{at_get_or}

no_value : {A : Type 0} (o : Option A) → is_some o ≡ false → o ≡ None
no_value None is = refl
no_value (Some x) is = absurd (false≢true (sym is))

not_empty : {A : Type 0} (xs : List A) (x : A) → xs ++ x ∷ [] ≡ [] → ⊥
not_empty [] x is = absurd (cc)
not_empty (y ∷ xs) x is = absurd (cc)

pub loop-place-preserved : goal.loop-place-preserved
loop-place-preserved c =
    let streams = c.args.streams.now in
    let n = c.loop-place.place in
    let blank : Pid = record { node = 0; number = 0 } in
    let p = get_or c.pids-pid-items.result.now n blank in
    let at_n = subst (λ ps. slice_get ps n ≡ Some p) c.pids-pid-items.ensures.value
    (at_get_or c.pids-pid-items.result.now n blank c.loop-place-test.true) in
    let next : (order : List Pid) → IsAt streams order c.args.walk.now
    → next_event streams order p ≡ c.event.result = λ order at.
    ap (slice_get (events_of streams p)) (sym (c.done_at-index.ensures
    ∙ done_here streams order c.args.walk.now n p c.pids-pid-items.ensures.streams.draft.rising at
    at_n)) ∙ sym c.event.ensures in
    elim c.if-is_some.branch [
      | then-is_some+in_ok-push w ↦ record {
        none = λ order at empty. absurd (not_empty c.loop-place.left.items _
            (sym (ap (λ v. v.items) w.left-is ∙ w.in_ok-push.ensures.items) ∙ empty));
        some = λ order at full.
            let found = some_of c.event.result (sym c.is_some.ensures ∙ w.if-is_some.true) in
            (p, found.0, next order at ∙ found.1);
      }
      | else-is_some w ↦ record {
        none = λ order at empty i q less at_i. elim (less_or_same i n (omega arith)) [
          | inl before ↦ c.loop-place.invariant.none order at
              (sym (ap (λ v. v.items) w.left-is) ∙ empty) i q before at_i
          | inr same ↦ subst (λ r. next_event streams order r ≡ None)
              (same_Some p q (sym at_n ∙ ap (slice_get (pids_of streams)) (sym same) ∙ at_i))
              (next order at ∙ no_value c.event.result
              (sym c.is_some.ensures ∙ w.if-is_some.false))
        ];
        some = λ order at full. c.loop-place.invariant.some order at
            (λ empty. full (ap (λ v. v.items) w.left-is ∙ empty));
      }
    ]

pub returns-clause-none : goal.returns-clause-none
returns-clause-none c = λ order at empty.
    let streams = c.args.streams.now in
    any_process streams (λ p. next_event streams order p ≡ None)
    (λ i p at_i.
    let within = place_within (pids_of streams) i p at_i in
    let all = subst (λ xs. length xs ≤ c.loop-place.place) c.pids-pid-items.ensures.value
    c.loop-place-test.false in
    c.loop-place.invariant.none order at empty i p (omega arith) at_i)
    (λ p none. ap (λ es. slice_get es (turns p order)) none)
