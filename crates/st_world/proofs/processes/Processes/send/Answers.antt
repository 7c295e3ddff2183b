-- A send writes the actor's tracing state at the actor's number, and its message, with the stamped
-- token, at the receiver's.
use Rattle.std.proofs.Common.{◌≡◌, ◌≢◌, ℕ, List, Some, inl, inr, get_or, set, length, [], ◌++◌, ◌∷◌}
use Rattle.std.proofs.Common.{refl, sym, ◌∙◌, ap}
use Rattle.std.proofs.lemmas.List.{get_or-set_other, length-set}
use Rattle.st_core.specs.declared.types.Act.TheVariants as act
use Rattle.st_core.specs.declared.types.Kind.TheVariants as kind
use Rattle.st_core.specs.declared.types.Message.{Message}
use Rattle.st_core.specs.Report.{report}
use Rattle.st_core.specs.State.{LocalState, State}
use Rattle.st_mail.specs.Mail.{queue_in}
use Rattle.st_mail.specs.declared.outcome.Outcome.{Outcome as Told}
use Rattle.st_world.specs.Nodes.{are_traced, flagged}
use Rattle.st_world.specs.Rows.{state_of}
use Rattle.st_world.specs.World.{outcome_to}
use Rattle.st_world.proofs.Acting.{started, touched, read_at, read_mark, ready_rows, act_rows}
use Rattle.st_world.proofs.Acting.{ready_kept, sent_kept}
use Rattle.st_world.proofs.Answering.{refused_unknown, refused_full, refused_memory, answered}
use Rattle.st_world.proofs.Answering.{rows_after}
use Rattle.st_world.proofs.Reading.{read_nothing}
use Rattle.st_world.proofs.Steps.{is_there, full_send, step_send, mail, told_of_send}
use Rattle.st_world.proofs.processes.Processes.send.Goals as goal

pub returns-in_default : goal.returns-in_default
returns-in_default g c =
    let gone = read_nothing c.self.invariant c.self.view_is c.args.me
    (sym c.number_of.ensures ∙ c.in_default.is) in
    refused_unknown g.row.TOP c.args.self.now (act.Send c.args.me c.args.to c.args.value) (inl gone)

pub returns-in_default-number_of : goal.returns-in_default-number_of
returns-in_default-number_of g c =
    let gone = read_nothing c.self.invariant c.self.view_is c.args.to
    (sym c.number_of-2.ensures ∙ c.in_default-number_of.is) in
    refused_unknown g.row.TOP c.args.self.now (act.Send c.args.me c.args.to c.args.value) (inr gone)

pub invariant_of-self : goal.invariant_of-self
invariant_of-self g c =
    let own = c.ready.ensures in
    let also = c.touch.ensures in
    let from = sym c.number_of.ensures ∙ c.in-Some.is in
    let s = touched (started c.self.invariant own.places own.tracers own.others from own.listed
    c.index_mut.ensures.value own.local) also.places also.tracers also.others in
    ready_kept s c.self.inside.queues.boxes refl

pub returns-in_default-stamp : goal.returns-in_default-stamp
returns-in_default-stamp g c =
    let own = c.ready.ensures in
    let also = c.touch.ensures in
    let from = sym c.number_of.ensures ∙ c.in-Some.is in
    let to = sym c.number_of-2.ensures ∙ c.in-Some-number_of.is in
    let s = touched (started c.self.invariant own.places own.tracers own.others from own.listed
    c.index_mut.ensures.value own.local) also.places also.tracers also.others in
    let ps = c.self.inside.pids in
    let raw = c.self.inside.locals.items in
    let ls = flagged (are_traced c.self.inside.nodes) raw in
    let bs = c.self.inside.queues.boxes in
    let aligned = c.self.invariant.rows.aligned in
    let i = c.in-Some.from_number in
    let x = c.index.result.now in
    let none =
    full_send g.row.TOP ps ls bs aligned c.args.me c.args.to c.args.value i x from
    (read_at s x c.index.ensures)
    (sym c.in_default-stamp.ensures.stamp) in
    let after : State = state_of ps
    (flagged (are_traced c.touch.new.self) (set raw i c.ready.new.local)) bs in
    let same = ap (λ (y : List LocalState). state_of ps y bs) (ready_rows s) in
    rw (← c.self.view_is)
    (refused_full g.row.TOP (state_of ps ls bs) (act.Send c.args.me c.args.to c.args.value) after
    same
    (is_there g.row.TOP ps ls bs aligned c.args.me i from)
    (is_there g.row.TOP ps ls bs aligned c.args.to c.in-Some-number_of.to_number to) none)

pub invariant_of-self-in_default-put : goal.invariant_of-self-in_default-put
invariant_of-self-in_default-put g c =
    let own = c.ready.ensures in
    let also = c.touch.ensures in
    let from = sym c.number_of.ensures ∙ c.in-Some.is in
    let s = touched (started c.self.invariant own.places own.tracers own.others from own.listed
    c.index_mut.ensures.value own.local) also.places also.tracers also.others in
    ready_kept s c.put.new.self.boxes c.in_default-put.ensures.err

pub returns-in_default-put : goal.returns-in_default-put
returns-in_default-put g c =
    let own = c.ready.ensures in
    let also = c.touch.ensures in
    let from = sym c.number_of.ensures ∙ c.in-Some.is in
    let to = sym c.number_of-2.ensures ∙ c.in-Some-number_of.is in
    let s = touched (started c.self.invariant own.places own.tracers own.others from own.listed
    c.index_mut.ensures.value own.local) also.places also.tracers also.others in
    let ps = c.self.inside.pids in
    let raw = c.self.inside.locals.items in
    let ls = flagged (are_traced c.self.inside.nodes) raw in
    let bs = c.self.inside.queues.boxes in
    let i = c.in-Some.from_number in
    let x = c.index.result.now in
    let steps =
    step_send g.row.TOP ps ls bs c.self.invariant.rows.aligned c.args.me c.args.to c.args.value i
    c.in-Some-number_of.to_number x c.in-Ok.local from to (read_at s x c.index.ensures)
    (sym c.in-Ok.ensures.stamp) in
    let marked = flagged (are_traced c.touch.new.self) (set raw i c.ready.new.local) in
    let same =
    ap (λ (y : List (List Message)). state_of ps marked y) c.in_default-put.ensures.err
    ∙ ap (λ (y : List LocalState). state_of ps y bs) (ready_rows s) in
    rw (← c.self.view_is)
    (refused_memory g.row.TOP (state_of ps ls bs) (act.Send c.args.me c.args.to c.args.value)
    (state_of ps marked c.put.new.self.boxes) same refl (rw steps refl))

pub invariant_of-self-2 : goal.invariant_of-self-2
invariant_of-self-2 g c =
    let own = c.ready.ensures in
    let also = c.touch.ensures in
    let from = sym c.number_of.ensures ∙ c.in-Some.is in
    let to = sym c.number_of-2.ensures ∙ c.in-Some-number_of.is in
    let s = touched (started c.self.invariant own.places own.tracers own.others from own.listed
    c.index_mut.ensures.value own.local) also.places also.tracers also.others in
    let ps = c.self.inside.pids in
    let ls = flagged (are_traced c.self.inside.nodes) c.self.inside.locals.items in
    let bs = c.self.inside.queues.boxes in
    let bs2 = c.put.new.self.boxes in
    let i = c.in-Some.from_number in
    let j = c.in-Some-number_of.to_number in
    let x = c.index.result.now in
    let l2 = c.in-Ok.local in
    let told : Told = told_of_send c.args.to c.args.value x l2 in
    let more : List Message = queue_in bs j ++ mail c.args.me c.args.value l2 ∷ [] in
    let put : bs2 ≡ set bs j more = rw c.token-token.ensures at c.in-Ok-put.ensures.ok in
    let whole =
    step_send g.row.TOP ps ls bs c.self.invariant.rows.aligned c.args.me c.args.to c.args.value i j
    x l2 from to
    (read_at s x c.index.ensures) (sym c.in-Ok.ensures.stamp)
    ∙ ap (λ (y : List (List Message)). Some (outcome_to told (state_of ps (set ls i l2) y)))
    (sym put) in
    let other : (n : ℕ) → n ≢ j → get_or bs2 n [] ≡ get_or bs n [] =
    λ n apart. ap (λ (y : List (List Message)). get_or y n []) put ∙ get_or-set_other bs j n more []
    apart in
    sent_kept s l2 bs2 j also.listed (c.in-Ok.ensures.traced ∙ read_mark s x c.index.ensures)
    (rows_after g.row.TOP ps ls (set ls i l2) bs bs2 (act.Send c.args.me c.args.to c.args.value)
    told
    c.self.invariant.rows (length-set ls i l2) (ap length put ∙ length-set bs j more) whole)
    other

pub returns : goal.returns
returns g c =
    let own = c.ready.ensures in
    let also = c.touch.ensures in
    let from = sym c.number_of.ensures ∙ c.in-Some.is in
    let to = sym c.number_of-2.ensures ∙ c.in-Some-number_of.is in
    let s = touched (started c.self.invariant own.places own.tracers own.others from own.listed
    c.index_mut.ensures.value own.local) also.places also.tracers also.others in
    let ps = c.self.inside.pids in
    let raw = c.self.inside.locals.items in
    let ls = flagged (are_traced c.self.inside.nodes) raw in
    let bs = c.self.inside.queues.boxes in
    let bs2 = c.put.new.self.boxes in
    let i = c.in-Some.from_number in
    let j = c.in-Some-number_of.to_number in
    let x = c.index.result.now in
    let l2 = c.in-Ok.local in
    let told : Told = told_of_send c.args.to c.args.value x l2 in
    let put : bs2 ≡ set bs j (queue_in bs j ++ mail c.args.me c.args.value l2 ∷ []) =
    rw c.token-token.ensures at c.in-Ok-put.ensures.ok in
    let whole =
    step_send g.row.TOP ps ls bs c.self.invariant.rows.aligned c.args.me c.args.to c.args.value i j
    x l2 from to
    (read_at s x c.index.ensures) (sym c.in-Ok.ensures.stamp)
    ∙ ap (λ (y : List (List Message)). Some (outcome_to told (state_of ps (set ls i l2) y)))
    (sym put) in
    let event : c.event.result ≡ told.report =
    c.event.ensures
    ∙ ap (λ b. report b kind.Send c.token-token.result (Some c.args.to) c.args.value)
    (c.traced.ensures ∙ c.in-Ok.ensures.traced)
    ∙ ap (λ t. report x.traced kind.Send t (Some c.args.to) c.args.value) c.token-token.ensures in
    let after : State =
    state_of ps (flagged (are_traced c.touch.new.self) (set (set raw i c.ready.new.local) i l2))
    bs2 in
    rw (← c.self.view_is) (rw event
    (answered g.row.TOP (state_of ps ls bs) (act.Send c.args.me c.args.to c.args.value) told after
    c.self.invariant.rows.sound
    (rw (← act_rows s l2 (c.in-Ok.ensures.traced ∙ read_mark s x c.index.ensures)) at whole)))
