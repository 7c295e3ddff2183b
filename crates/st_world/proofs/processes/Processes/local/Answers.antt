-- The row at the pid's number is the tracing state of the process, except for the mark, which is
-- its node's.
use Rattle.std.proofs.Common.{◌≡◌, Some, option_map, sym, ◌∙◌, ap}
use Rattle.st_core.specs.State.{LocalState, Process}
use Rattle.st_world.specs.Nodes.{traced_at}
use Rattle.st_world.proofs.Reading.{read_kept, read_nothing}
use Rattle.st_world.proofs.processes.Processes.local.Goals as goal

pub returns-in_default : goal.returns-in_default
returns-in_default g c =
    ap (option_map (λ (r : Process). r.local))
    (sym (read_nothing c.self.invariant c.self.view_is c.args.pid
    (sym c.number_of.ensures ∙ c.in_default.is)))

pub returns : goal.returns
returns g c =
    let kept : LocalState = c.index.result.now in
    let read = read_kept c.self.invariant c.self.view_is c.args.pid c.in-Some.number kept
    (sym c.number_of.ensures ∙ c.in-Some.is) c.index.ensures in
    let marked : c.trace-was.new.self
    ≡ record kept { traced = traced_at c.self.inside.nodes c.in-Some.number } =
    c.trace-was.ensures.new ∙ ap (λ b. record kept { traced = b }) c.is_traced.ensures in
    ap Some marked ∙ ap (option_map (λ (r : Process). r.local)) (sym read)
