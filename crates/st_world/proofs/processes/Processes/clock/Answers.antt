-- The row at the number of the pid has the process's clock.
use Rattle.std.proofs.Common.{Some, option_map, sym, ◌∙◌, ap}
use Rattle.st_core.specs.State.{Process}
use Rattle.st_world.proofs.Reading.{read_kept, read_nothing, read_ordered}
use Rattle.st_world.proofs.processes.Processes.clock.Goals as goal

pub returns-in_default-clause-value : goal.returns-in_default-clause-value
returns-in_default-clause-value g c =
    ap (option_map (λ (r : Process). r.local.clock))
    (sym (read_nothing c.self.invariant c.self.view_is c.args.pid
    (sym c.number_of.ensures ∙ c.in_default.is)))

pub returns-clause-value : goal.returns-clause-value
returns-clause-value g c =
    let read = read_kept c.self.invariant c.self.view_is c.args.pid c.in-Some.number
    c.index.result.now
    (sym c.number_of.ensures ∙ c.in-Some.is) c.index.ensures in
    ap Some c.clock.ensures.value ∙ ap (option_map (λ (r : Process). r.local.clock)) (sym read)

pub returns-in_default-clause-ordered : goal.returns-in_default-clause-ordered
returns-in_default-clause-ordered g c = read_ordered c.self.invariant c.self.view_is c.args.pid

pub returns-clause-ordered : goal.returns-clause-ordered
returns-clause-ordered g c = read_ordered c.self.invariant c.self.view_is c.args.pid
