-- The reset of the rows is that of the state, since it wipes each listed process of the node and
-- the others are clean.
use Rattle.std.proofs.Common.{◌≡◌, Some, inl, position, length, sym, ◌∙◌, ap, subst}
use Rattle.std.proofs.lemmas.List.{with_items_is}
use Rattle.std.specs.Vec.{with_items}
use Rattle.st_core.specs.declared.types.Act.TheVariants as act
use Rattle.st_core.specs.declared.types.Reply.TheVariants as reply
use Rattle.st_core.specs.Pid.{pid_eq}
use Rattle.st_core.specs.State.{State}
use Rattle.st_world.specs.Nodes.{are_traced, flagged}
use Rattle.st_world.specs.Rows.{state_of, AreKept}
use Rattle.st_world.proofs.Answering.{refused_unknown, answered}
use Rattle.st_world.proofs.NodeActs.{own_pid, told_of, reset_step, reset_kept, reset_listed}
use Rattle.st_world.proofs.Reading.{read_nothing}
use Rattle.st_world.proofs.processes.Processes.reset.Goals as goal

pub returns-in_default : goal.returns-in_default
returns-in_default g c =
    let gone = read_nothing c.self.invariant c.self.view_is c.args.me
    (sym c.number_of.ensures ∙ c.in_default.is) in
    refused_unknown g.row.TOP c.args.self.now (act.Reset c.args.me) (inl gone)

pub invariant_of-self : goal.invariant_of-self
invariant_of-self g c =
    let ps = c.self.inside.pids in
    let i = c.in-Some.number in
    let at : position (λ p. pid_eq p c.args.me) c.self.inside.pids ≡ Some c.in-Some.number =
    sym c.number_of.ensures ∙ c.in-Some.is in
    let ls2 = c.wipe.new.locals in
    let bs2 = c.wipe.new.queues.boxes in
    let own = rw c.deref_mut.ensures.value at c.wipe.ensures in
    let pid = own_pid _ _ _ _ _ c.self.invariant c.args.me i at c.clear.new.self
    c.clear.ensures.places in
    let state = own.rows.state ps c.args.me c.self.invariant.by_node pid c.self.invariant.listed in
    let items : (with_items c.self.inside.locals c.wipe.new.locals).items ≡ c.wipe.new.locals =
    with_items_is c.self.inside.locals c.wipe.new.locals
    (c.wipe.auto.locals ∙ c.deref_mut.ensures.len) in
    let locals_len = c.wipe.auto.locals ∙ ap length c.deref_mut.ensures.value in
    let queues_len = own.queues_len ∙ c.self.invariant.by_node.len in
    subst (λ x. AreKept g.row.TOP ps c.clear.new.self x bs2) (sym items)
    (reset_kept _ _ _ _ _ c.self.invariant c.args.me i at c.clear.new.self c.clear.ensures.places
    c.clear.ensures.tracers ls2 bs2 locals_len queues_len state
    (reset_listed _ _ _ _ _ c.self.invariant c.args.me i at c.clear.new.self
    c.clear.ensures.places ls2 bs2 own.rows.node own.rows.others c.clear.ensures.others))

pub returns : goal.returns
returns g c =
    let ps = c.self.inside.pids in
    let raw = c.self.inside.locals.items in
    let bs = c.self.inside.queues.boxes in
    let i = c.in-Some.number in
    let at : position (λ p. pid_eq p c.args.me) c.self.inside.pids ≡ Some c.in-Some.number =
    sym c.number_of.ensures ∙ c.in-Some.is in
    let ls2 = c.wipe.new.locals in
    let bs2 = c.wipe.new.queues.boxes in
    let own = rw c.deref_mut.ensures.value at c.wipe.ensures in
    let pid = own_pid _ _ _ _ _ c.self.invariant c.args.me i at c.clear.new.self
    c.clear.ensures.places in
    let state = own.rows.state ps c.args.me c.self.invariant.by_node pid c.self.invariant.listed in
    let items : (with_items c.self.inside.locals c.wipe.new.locals).items ≡ c.wipe.new.locals =
    with_items_is c.self.inside.locals c.wipe.new.locals
    (c.wipe.auto.locals ∙ c.deref_mut.ensures.len) in
    let locals_len = c.wipe.auto.locals ∙ ap length c.deref_mut.ensures.value in
    let queues_len = own.queues_len ∙ c.self.invariant.by_node.len in
    let ls = flagged (are_traced c.self.inside.nodes) c.self.inside.locals.items in
    let step =
    reset_step _ _ _ _ _ c.self.invariant c.args.me i at c.clear.new.self c.clear.ensures.places
    c.clear.ensures.tracers ls2 bs2 locals_len queues_len state in
    let whole = rw (← items) at step in
    let after : State =
    state_of ps (flagged (are_traced c.clear.new.self)
    (with_items c.self.inside.locals c.wipe.new.locals).items) bs2 in
    rw (← c.self.view_is) (rw c.answer.ensures
    (answered g.row.TOP (state_of ps ls bs) (act.Reset c.args.me) (told_of reply.Done) after
    c.self.invariant.rows.sound whole))
