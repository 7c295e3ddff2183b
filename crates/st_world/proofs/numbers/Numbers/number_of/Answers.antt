-- Rising pids occur once, so a pid's place is its number.
use Rattle.std.proofs.Common.{◌≡◌, ◌∙◌, ap, slice_get, Some, sym}
use Rattle.st_core.proofs.ForCallers.{pid_eq-true}
use Rattle.st_world.proofs.Pids.{number_at}
use Rattle.st_world.proofs.numbers.Numbers.number_of.Goals as goal

pub returns-then-eq : goal.returns-then-eq
returns-then-eq c =
    let same = pid_eq-true c.in-Some.found.now c.args.pid (sym c.eq.ensures ∙ c.if-eq.true) in
    let at : slice_get c.self.inside.pids.keys c.guess-guess.result ≡ Some c.args.pid =
    sym c.in-Some.ensures.key ∙ ap Some same in
    rw (← c.self.view_is) (number_at c.self.inside.pids.keys c.guess-guess.result c.args.pid
    c.self.invariant at)
