-- The row at the number of the pid has the process's token.
use Rattle.std.proofs.Common.{option_and_then, sym, ◌∙◌, ap}
use Rattle.st_core.specs.State.{Process}
use Rattle.st_world.proofs.Reading.{read_kept, read_nothing}
use Rattle.st_world.proofs.processes.Processes.token.Goals as goal

pub returns-in_default : goal.returns-in_default
returns-in_default g c =
    ap (option_and_then (λ (r : Process). r.local.token))
    (sym (read_nothing c.self.invariant c.self.view_is c.args.pid
    (sym c.number_of.ensures ∙ c.in_default.is)))

pub returns : goal.returns
returns g c =
    let read = read_kept c.self.invariant c.self.view_is c.args.pid c.in-Some.number
    c.index.result.now
    (sym c.number_of.ensures ∙ c.in-Some.is) c.index.ensures in
    c.token.ensures ∙ ap (option_and_then (λ (r : Process). r.local.token)) (sym read)
