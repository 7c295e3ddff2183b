-- The lesser of a seat's pid that isn't seated and the least one so far is kept.
use Rattle.std.proofs.Common.{Option, sym, ◌∙◌, ap, subst, take, ◌+◌}
use Rattle.st_core.specs.declared.types.Pid.{Pid}
use Rattle.st_runtime.specs.Joining.{IsLeastUnseated, lesser}
use Rattle.st_runtime.specs.Pcb.{Control}
use Rattle.st_runtime.specs.Pieces.{Parts, IsSeated}
use Rattle.st_runtime.specs.Seat.{Calls}
use Rattle.st_runtime.proofs.Seated.{least_less, least_seated, least_unseated}
use Rattle.st_runtime.proofs.join.seating.least_of_seats.Goals as goal
use Rattle.st_runtime.proofs.join.seating.least_of_seats.Goals.{then-not-is_seated}
use Rattle.st_runtime.proofs.join.seating.least_of_seats.Goals.{else-not-is_seated}

pub loop-seat-preserved : goal.loop-seat-preserved
loop-seat-preserved g c =
    let xs = c.args.processes.now in
    let seats = c.args.seats.now in
    let pieces : Parts = record { processes = xs; seats = seats } in
    let i = c.loop-seat.seat-index in
    let s = c.seat-item.result in
    let least = c.loop-seat.least in
    let of_log : Control → Pid = λ y. y.process.pid in
    let of_seat : Calls → Pid = λ y. y.pid in
    let Least : Option Pid → Type 0 = λ o.
    IsLeastUnseated of_log pieces xs o × IsLeastUnseated of_seat pieces (take (i + 1) seats) o in
    let Seated : Pid → Type 0 = λ p. IsSeated pieces p in
    let was = c.loop-seat.invariant in
    elim c.if-not-is_seated.branch [
      | then-not-is_seated w ↦
          let is = w.least-is ∙ w.lesser-least.ensures
          ∙ ap (lesser least) w.pid-then-not-is_seated.ensures in
          let no : Seated s.pid → ⊥ = λ seated.
          let yes = c.is_seated.ensures.1 (subst Seated (sym c.pid.ensures) seated) in
          let not_so = w.if-not-is_seated.true in cc in
          subst Least (sym is) (
            least_less of_log pieces xs least s.pid no was.0,
            least_unseated of_seat pieces seats i s least c.loop-seat-test.true c.seat-item.is no
                was.1,
          )
      | else-not-is_seated w ↦
          let seated = subst Seated c.pid.ensures
          (c.is_seated.ensures.0 w.if-not-is_seated.false) in
          subst Least (sym w.least-is) (
            was.0,
            least_seated of_seat pieces seats i s least c.loop-seat-test.true c.seat-item.is seated
                was.1,
          )
    ]
