-- An act that touches no queue writes only the actor's tracing state, at the actor's number.
use Rattle.std.proofs.Common.{List, inl, set, get_or, [], IsSome, refl, sym, ◌∙◌, ap}
use Rattle.std.proofs.lemmas.List.{set-get_or}
use Rattle.st_core.specs.State.{LocalState, State, process}
use Rattle.st_core.specs.Step.{actor}
use Rattle.st_world.specs.Nodes.{are_traced, flagged}
use Rattle.st_world.specs.Rows.{state_of}
use Rattle.st_world.proofs.Acting.{inner_mark, started, read_at, read_mark, act_rows, acted_kept}
use Rattle.st_world.proofs.Answering.{refused_unknown, refused_full, answered, rows_after_inner}
use Rattle.st_world.proofs.Reading.{read_nothing}
use Rattle.st_world.proofs.Steps.{receiver_inner, is_there, full_act, step_inner}
use Rattle.st_world.proofs.processes.Processes.inner.Goals as goal

pub returns-in_default : goal.returns-in_default
returns-in_default g c =
    let gone = read_nothing c.self.invariant c.self.view_is c.args.me
    (sym c.number_of.ensures ∙ c.in_default.is) in
    refused_unknown g.row.TOP c.args.self.now c.args.act.now (inl (rw c.requires.me gone))

pub invariant_of-self : goal.invariant_of-self
invariant_of-self g c =
    let own = c.ready.ensures in
    let at = sym c.number_of.ensures ∙ c.in-Some.is in
    let s = started c.self.invariant own.places own.tracers own.others at own.listed
    c.index_mut.ensures.value own.local in
    let a = c.args.act.now in
    let x = c.index_mut-2.result.now in
    let is = c.index_mut-2.ensures.value in
    let acts = c.inner.ensures in
    let bs = c.self.inside.queues.boxes in
    acted_kept s c.inner.new.local bs
    (inner_mark g.row.TOP a c.args.me x c.inner.new.local c.inner.result acts.acted acts.err
    ∙ read_mark s x is)
    (rows_after_inner g.row.TOP c.self.inside.pids _ bs a c.in-Some.number x c.inner.new.local
    c.inner.result
    c.self.invariant.rows c.requires.inner (rw c.requires.me at) (read_at s x is)
    (rw c.requires.me acts.acted)
    acts.err)
    (λ j other. refl)

pub returns-in_default-inner : goal.returns-in_default-inner
returns-in_default-inner g c =
    let own = c.ready.ensures in
    let at = sym c.number_of.ensures ∙ c.in-Some.is in
    let s = started c.self.invariant own.places own.tracers own.others at own.listed
    c.index_mut.ensures.value own.local in
    let ps = c.self.inside.pids in
    let raw = c.self.inside.locals.items in
    let ls = flagged (are_traced c.self.inside.nodes) raw in
    let bs = c.self.inside.queues.boxes in
    let aligned = c.self.invariant.rows.aligned in
    let a = c.args.act.now in
    let i = c.in-Some.number in
    let x = c.index_mut-2.result.now in
    let l2 = c.inner.new.local in
    let el = read_at s x c.index_mut-2.ensures.value in
    let mark = inner_mark g.row.TOP a c.args.me x l2 c.inner.result c.inner.ensures.acted
    c.inner.ensures.err
    ∙ read_mark s x c.index_mut-2.ensures.value in
    let there : IsSome (process (state_of ps ls bs) (actor a)) =
    is_there g.row.TOP ps ls bs aligned (actor a) i (rw c.requires.me at) in
    let none = full_act g.row.TOP ps ls bs aligned a i x (rw c.requires.me at) el
    (rw c.requires.me (c.in_default-inner.ensures.full (get_or bs i []))) in
    let back = ap (set ls i) (c.in_default-inner.ensures.err ∙ el) ∙ set-get_or ls i x in
    let after : State =
    state_of ps (flagged (are_traced c.ready.new.self) (set (set raw i c.ready.new.local) i l2))
    bs in
    let same = ap (λ (y : List LocalState). state_of ps y bs) (act_rows s l2 mark ∙ back) in
    rw (← c.self.view_is)
    (refused_full g.row.TOP (state_of ps ls bs) a after same there
    (rw (receiver_inner a c.requires.inner) there) none)

pub invariant_of-self-2 : goal.invariant_of-self-2
invariant_of-self-2 g c =
    let own = c.ready.ensures in
    let at = sym c.number_of.ensures ∙ c.in-Some.is in
    let s = started c.self.invariant own.places own.tracers own.others at own.listed
    c.index_mut.ensures.value own.local in
    let a = c.args.act.now in
    let x = c.index_mut-2.result.now in
    let is = c.index_mut-2.ensures.value in
    let acts = c.inner.ensures in
    let bs = c.self.inside.queues.boxes in
    acted_kept s c.inner.new.local bs
    (inner_mark g.row.TOP a c.args.me x c.inner.new.local c.inner.result acts.acted acts.err
    ∙ read_mark s x is)
    (rows_after_inner g.row.TOP c.self.inside.pids _ bs a c.in-Some.number x c.inner.new.local
    c.inner.result
    c.self.invariant.rows c.requires.inner (rw c.requires.me at) (read_at s x is)
    (rw c.requires.me acts.acted)
    acts.err)
    (λ j other. refl)

pub returns : goal.returns
returns g c =
    let own = c.ready.ensures in
    let at = sym c.number_of.ensures ∙ c.in-Some.is in
    let s = started c.self.invariant own.places own.tracers own.others at own.listed
    c.index_mut.ensures.value own.local in
    let ps = c.self.inside.pids in
    let raw = c.self.inside.locals.items in
    let ls = flagged (are_traced c.self.inside.nodes) raw in
    let bs = c.self.inside.queues.boxes in
    let a = c.args.act.now in
    let i = c.in-Some.number in
    let x = c.index_mut-2.result.now in
    let l2 = c.inner.new.local in
    let mark = inner_mark g.row.TOP a c.args.me x l2 c.inner.result c.inner.ensures.acted
    c.inner.ensures.err
    ∙ read_mark s x c.index_mut-2.ensures.value in
    let steps =
    step_inner g.row.TOP ps ls bs c.self.invariant.rows.aligned a i x c.in-Ok.outcome l2
    c.requires.inner
    (rw c.requires.me at) (read_at s x c.index_mut-2.ensures.value)
    (rw c.requires.me c.in-Ok.ensures.acted) in
    let after : State =
    state_of ps (flagged (are_traced c.ready.new.self) (set (set raw i c.ready.new.local) i l2))
    bs in
    rw (← c.self.view_is)
    (answered g.row.TOP (state_of ps ls bs) a c.in-Ok.outcome after c.self.invariant.rows.sound
    (rw (← act_rows s l2 mark) at steps))
