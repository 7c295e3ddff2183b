-- The lesser of a pid that isn't seated and the least one so far is kept.
use Rattle.std.proofs.Common.{Option, sym, ◌∙◌, ap, subst, take, ◌+◌}
use Rattle.st_core.specs.declared.types.Pid.{Pid}
use Rattle.st_runtime.specs.Joining.{IsLeastUnseated, lesser}
use Rattle.st_runtime.specs.Pcb.{Control}
use Rattle.st_runtime.specs.Pieces.{Parts, IsSeated}
use Rattle.st_runtime.proofs.Seated.{least_seated, least_unseated}
use Rattle.st_runtime.proofs.join.seating.least_of_logs.Goals as goal
use Rattle.st_runtime.proofs.join.seating.least_of_logs.Goals.{then-not-is_seated}
use Rattle.st_runtime.proofs.join.seating.least_of_logs.Goals.{else-not-is_seated}

pub loop-process-preserved : goal.loop-process-preserved
loop-process-preserved g c =
    let xs = c.args.processes.now in
    let pieces : Parts = record { processes = xs; seats = c.args.seats.now } in
    let i = c.loop-process.process-index in
    let x = c.process-item.result in
    let least = c.loop-process.least in
    let of : Control → Pid = λ y. y.process.pid in
    let Least : Option Pid → Type 0 = λ o. IsLeastUnseated of pieces (take (i + 1) xs) o in
    let Seated : Pid → Type 0 = λ p. IsSeated pieces p in
    elim c.if-not-is_seated.branch [
      | then-not-is_seated w ↦
          let is = w.least-is ∙ w.lesser-least.ensures
          ∙ ap (lesser least) w.pid-then-not-is_seated.ensures in
          let no : Seated x.process.pid → ⊥ = λ seated.
          let yes = c.is_seated.ensures.1 (subst Seated (sym c.pid.ensures) seated) in
          let not_so = w.if-not-is_seated.true in cc in
          subst Least (sym is)
          (least_unseated of pieces xs i x least c.loop-process-test.true c.process-item.is no
          c.loop-process.invariant)
      | else-not-is_seated w ↦
          let seated = subst Seated c.pid.ensures
          (c.is_seated.ensures.0 w.if-not-is_seated.false) in
          subst Least (sym w.least-is)
          (least_seated of pieces xs i x least c.loop-process-test.true c.process-item.is seated
          c.loop-process.invariant)
    ]
