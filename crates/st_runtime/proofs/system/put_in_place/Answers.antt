-- A process is put only in the place of one with its pid, so the pids stay.
use Rattle.std.proofs.Common.{◌∙◌, sym, ap}
use Rattle.st_core.proofs.ForCallers.{pid_eq-true}
use Rattle.st_runtime.specs.Pcb.{Control}
use Rattle.st_runtime.proofs.Members.{map-set_same}
use Rattle.st_runtime.proofs.system.put_in_place.Goals as goal

pub returns-then-eq : goal.returns-then-eq
returns-then-eq g c =
    map-set_same (λ (x : Control). x.process.pid) c.args.all.now c.args.place c.args.process
    c.index-all-place.result c.index-all-place.is
    (sym c.pid.ensures ∙ pid_eq-true c.pid.result c.pid-then-place-all.result
    (sym c.eq.ensures ∙ c.if-eq.true)
    ∙ c.pid-then-place-all.ensures
    ∙ ap (λ (x : Control). x.process.pid) (sym c.index-all-place.is))
