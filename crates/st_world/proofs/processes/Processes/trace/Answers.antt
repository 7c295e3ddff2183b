-- The tracer change of the node is that of the state, since the mark of each of its processes is
-- the node's.
use Rattle.std.proofs.Common.{◌≡◌, Some, inl, position, sym, ◌∙◌}
use Rattle.st_core.specs.declared.types.Act.TheVariants as act
use Rattle.st_core.specs.declared.types.Reply.TheVariants as reply
use Rattle.st_core.specs.Pid.{pid_eq}
use Rattle.st_core.specs.State.{State}
use Rattle.st_world.specs.Nodes.{are_traced, flagged}
use Rattle.st_world.specs.Rows.{state_of}
use Rattle.st_world.proofs.Answering.{refused_unknown, answered}
use Rattle.st_world.proofs.NodeActs.{told_of, trace_step, trace_kept}
use Rattle.st_world.proofs.Reading.{read_nothing}
use Rattle.st_world.proofs.processes.Processes.trace.Goals as goal

pub returns-in_default : goal.returns-in_default
returns-in_default g c =
    let gone = read_nothing c.self.invariant c.self.view_is c.args.me
    (sym c.number_of.ensures ∙ c.in_default.is) in
    refused_unknown g.row.TOP c.args.self.now (act.Tracer c.args.me c.args.on) (inl gone)

pub invariant_of-self : goal.invariant_of-self
invariant_of-self g c =
    let at : position (λ p. pid_eq p c.args.me) c.self.inside.pids ≡ Some c.in-Some.number =
    sym c.number_of.ensures ∙ c.in-Some.is in
    trace_kept _ _ _ _ _ c.self.invariant c.args.me c.in-Some.number at c.trace-was.new.self
    c.trace-was.ensures.places c.args.on c.trace-was.ensures.here c.trace-was.ensures.elsewhere
    c.trace-was.result c.trace-was.ensures.was c.trace-was.ensures.listed

pub returns : goal.returns
returns g c =
    let ps = c.self.inside.pids in
    let raw = c.self.inside.locals.items in
    let bs = c.self.inside.queues.boxes in
    let at : position (λ p. pid_eq p c.args.me) c.self.inside.pids ≡ Some c.in-Some.number =
    sym c.number_of.ensures ∙ c.in-Some.is in
    let ls = flagged (are_traced c.self.inside.nodes) c.self.inside.locals.items in
    let step =
    trace_step _ _ _ _ _ c.self.invariant c.args.me c.in-Some.number at c.trace-was.new.self
    c.trace-was.ensures.places c.args.on c.trace-was.ensures.here c.trace-was.ensures.elsewhere
    c.trace-was.result c.trace-was.ensures.was in
    let after : State = state_of ps (flagged (are_traced c.trace-was.new.self) raw) bs in
    rw (← c.self.view_is) (rw c.answer.ensures
    (answered g.row.TOP (state_of ps ls bs) (act.Tracer c.args.me c.args.on)
    (told_of (reply.Was c.trace-was.result)) after c.self.invariant.rows.sound step))
