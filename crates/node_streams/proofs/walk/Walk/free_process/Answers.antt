-- Each listed process is asked, and the others have no events.
use Rattle.std.proofs.Common.{◌≡◌, IfNone, length, Some, inl, inr, refl, arith, sym, ◌∙◌, ap, subst}
use Rattle.std.specs.List.{slice_get}
use Rattle.st_core.specs.declared.types.Pid.{Pid}
use Rattle.st_core.specs.Run.{pids_of}
use Rattle.st_core.proofs.ForCallers.{place_within}
use Rattle.node_streams.specs.Order.{CanGo, turns}
use Rattle.node_streams.proofs.Frees.{over_stays}
use Rattle.node_streams.proofs.Orders.{less_or_same}
use Rattle.node_streams.proofs.Turns.{any_process}
use Rattle.node_streams.proofs.walk.Walk.free_process.Goals as goal

pub loop-place-preserved : goal.loop-place-preserved
loop-place-preserved c = λ order at i p below at_i.
    let streams = c.args.streams.now in
    let n = c.loop-place.place in
    elim (less_or_same i n (omega arith)) [
      | inl less ↦ c.loop-place.invariant order at i p less at_i
      | inr same ↦ subst (λ o. IfNone o ((q : Pid) → slice_get (pids_of streams) n ≡ Some q
          → CanGo streams order q → ⊥)) c.in_default.is (c.free_event.ensures.none order at) p
          (ap (slice_get (pids_of streams)) (sym same) ∙ at_i)
    ]

pub returns-clause-none : goal.returns-clause-none
returns-clause-none c = λ order at.
    let streams = c.args.streams.now in
    any_process streams (λ p. CanGo streams order p → ⊥)
    (λ i p at_i.
    let within = place_within (pids_of streams) i p at_i in
    let all = ap length c.pids-place-end.ensures.value in
    let past = c.loop-place-test.false in
    c.loop-place.invariant order at i p (omega arith) at_i)
    (λ p none. over_stays streams order p (turns p order) refl
    (ap (λ es. slice_get es (turns p order)) none))
