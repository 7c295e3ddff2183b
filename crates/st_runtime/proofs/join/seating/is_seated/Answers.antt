-- The logs tell of one seat if there is a log, and of none if there is not.
use Rattle.std.proofs.Common.{[], ◌∷◌, sym, ◌∙◌, ap}
use Rattle.st_runtime.specs.Pieces.{calls_of}
use Rattle.st_runtime.proofs.Members.{Contains-In}
use Rattle.st_runtime.proofs.Seated.{none_told, one_told}
use Rattle.st_runtime.proofs.Wholeness.{control_at}
use Rattle.st_runtime.proofs.join.seating.is_seated.Goals as goal

pub returns-in-Some : goal.returns-in-Some
returns-in-Some g c =
    let xs = c.args.processes.now in
    let p = c.args.pid in
    let x = c.index-processes-place.result in
    let at = c.in-Some.ensures.some in
    let found = control_at xs c.in-Some.place x p at.0 at.1 c.index-processes-place.is in
    let told = one_told xs x p c.requires (Contains-In x xs found.0) found.1 in
    let log = ap (λ es. record { pid = p; mine = calls_of p es } ∷ []) c.log.ensures.value in (
      λ yes. c.has_only_seat.ensures.0 yes ∙ log ∙ sym told,
      λ is. c.has_only_seat.ensures.1 (is ∙ told ∙ sym log),
    )

pub returns-in-None : goal.returns-in-None
returns-in-None g c =
    let told = none_told c.args.processes.now c.args.pid (sym c.in-None.ensures.variant) in
    (λ yes. c.has_no_seat.ensures.0 yes ∙ sym told, λ is. c.has_no_seat.ensures.1 (is ∙ told))
