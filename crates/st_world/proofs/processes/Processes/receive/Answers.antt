-- A receive writes the actor's tracing state and queue, at the actor's number; each token in its
-- queue was stamped, so the actor can meet it.
use Rattle.std.proofs.Common.{◌≡◌, ◌≢◌, ℕ, List, [], Some, inl, get_or, set, length, sym, ◌∙◌, ap}
use Rattle.std.proofs.Common.{arith}
use Rattle.std.proofs.lemmas.List.{get_or-set_other, length-set}
use Rattle.st_core.specs.declared.types.Act.TheVariants as act
use Rattle.st_core.specs.declared.types.Message.{Message}
use Rattle.st_core.specs.State.{State}
use Rattle.st_mail.specs.Actor.{process_of, part_of}
use Rattle.st_mail.specs.Mail.{queue_in}
use Rattle.st_world.specs.Nodes.{are_traced, flagged}
use Rattle.st_world.specs.Rows.{state_of}
use Rattle.st_world.specs.World.{outcome_to}
use Rattle.st_world.proofs.Acting.{started, read_at, read_mark, act_rows, acted_kept}
use Rattle.st_world.proofs.Answering.{refused_unknown, answered, rows_after}
use Rattle.st_world.proofs.Marks.{acted_mark}
use Rattle.st_world.proofs.Reading.{read_nothing}
use Rattle.st_world.proofs.RowLemmas.{number_within}
use Rattle.st_world.proofs.Steps.{queue_fits, step_receive}
use Rattle.st_world.proofs.processes.Processes.receive.Goals as goal

pub returns-in_default : goal.returns-in_default
returns-in_default g c =
    let gone = read_nothing c.self.invariant c.self.view_is c.args.me
    (sym c.number_of.ensures ∙ c.in_default.is) in
    refused_unknown g.row.TOP c.args.self.now (act.Receive c.args.me c.args.want.now) (inl gone)

pub receive-requires : goal.receive-requires
receive-requires g c =
    let own = c.ready.ensures in
    let at = sym c.number_of.ensures ∙ c.in-Some.is in
    let s = started c.self.invariant own.places own.tracers own.others at own.listed
    c.index_mut.ensures.value own.local in
    let ps = c.self.inside.pids in
    let ls = flagged (are_traced c.self.inside.nodes) c.self.inside.locals.items in
    let x = c.index_mut-2.result.now in
    let rows = c.self.invariant.rows in
    let fit = queue_fits g.row.TOP ps ls c.self.inside.queues.boxes rows.aligned rows.sound
    c.args.me c.in-Some.number x
    at (read_at s x c.index_mut-2.ensures.value) in (
      omega arith,
      (
        omega (arith, number_within ps c.args.me c.in-Some.number at, rows.aligned.queues_len),
        fit,
      ),
    )

pub invariant_of-self : goal.invariant_of-self
invariant_of-self g c =
    let own = c.ready.ensures in
    let at = sym c.number_of.ensures ∙ c.in-Some.is in
    let s = started c.self.invariant own.places own.tracers own.others at own.listed
    c.index_mut.ensures.value own.local in
    let ps = c.self.inside.pids in
    let ls = flagged (are_traced c.self.inside.nodes) c.self.inside.locals.items in
    let bs = c.self.inside.queues.boxes in
    let i = c.in-Some.number in
    let x = c.index_mut-2.result.now in
    let l2 = c.receive.new.local in
    let bs2 = c.receive.new.queues.boxes in
    let told = c.receive.result in
    let queue : List Message = queue_in bs2 i in
    let acts = c.receive.ensures in
    let mark =
    acted_mark g.row.TOP (process_of c.args.me x (queue_in bs i))
    (act.Receive c.args.me c.args.want.now)
    (part_of told l2 queue) acts.acted
    ∙ read_mark s x c.index_mut-2.ensures.value in
    let steps =
    step_receive g.row.TOP ps ls bs c.self.invariant.rows.aligned c.args.me c.args.want.now i x told
    l2 queue at
    (read_at s x c.index_mut-2.ensures.value) acts.acted
    ∙ ap (λ (y : List (List Message)). Some (outcome_to told (state_of ps (set ls i l2) y)))
    (sym acts.others) in
    let queues = ap length acts.others ∙ length-set bs i queue in
    let other : (j : ℕ) → j ≢ i → get_or bs2 j [] ≡ get_or bs j [] =
    λ j apart.
    ap (λ (y : List (List Message)). get_or y j []) acts.others ∙ get_or-set_other bs i j queue []
    apart in
    acted_kept s l2 bs2 mark
    (rows_after g.row.TOP ps ls (set ls i l2) bs bs2 (act.Receive c.args.me c.args.want.now) told
    c.self.invariant.rows
    (length-set ls i l2) queues steps)
    other

pub returns : goal.returns
returns g c =
    let own = c.ready.ensures in
    let at = sym c.number_of.ensures ∙ c.in-Some.is in
    let s = started c.self.invariant own.places own.tracers own.others at own.listed
    c.index_mut.ensures.value own.local in
    let ps = c.self.inside.pids in
    let raw = c.self.inside.locals.items in
    let ls = flagged (are_traced c.self.inside.nodes) raw in
    let bs = c.self.inside.queues.boxes in
    let i = c.in-Some.number in
    let x = c.index_mut-2.result.now in
    let l2 = c.receive.new.local in
    let bs2 = c.receive.new.queues.boxes in
    let told = c.receive.result in
    let queue : List Message = queue_in bs2 i in
    let acts = c.receive.ensures in
    let mark =
    acted_mark g.row.TOP (process_of c.args.me x (queue_in bs i))
    (act.Receive c.args.me c.args.want.now)
    (part_of told l2 queue) acts.acted
    ∙ read_mark s x c.index_mut-2.ensures.value in
    let steps =
    step_receive g.row.TOP ps ls bs c.self.invariant.rows.aligned c.args.me c.args.want.now i x told
    l2 queue at
    (read_at s x c.index_mut-2.ensures.value) acts.acted
    ∙ ap (λ (y : List (List Message)). Some (outcome_to told (state_of ps (set ls i l2) y)))
    (sym acts.others) in
    let after : State =
    state_of ps (flagged (are_traced c.ready.new.self) (set (set raw i c.ready.new.local) i l2))
    bs2 in
    rw (← c.self.view_is)
    (answered g.row.TOP (state_of ps ls bs) (act.Receive c.args.me c.args.want.now) told after
    c.self.invariant.rows.sound (rw (← act_rows s l2 mark) at steps))
