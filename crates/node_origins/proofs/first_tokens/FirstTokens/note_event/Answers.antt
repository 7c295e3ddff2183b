-- The tokens of an event join the table one after the other.
use Rattle.std.proofs.Common.{◌+◌, [], ◌∷◌, ap, subst}
use Rattle.st_core.specs.declared.types.Kind.{Kind}
use Rattle.st_core.specs.declared.types.Kind.TheVariants as kind
use Rattle.st_core.specs.Event.{kind_eq}
use Rattle.node_machine.specs.Given.{fresh}
use Rattle.node_given.proofs.ForCallers.{on_ok}
use Rattle.node_origins.specs.Tables.{IsSince}
use Rattle.node_origins.proofs.TokenTables.{not_receive, since_answer, since_receive, since_stamp}
use Rattle.node_origins.proofs.first_tokens.FirstTokens.note_event.Goals as goal

pub returns-then-event : goal.returns-then-event
returns-then-event c = λ es at since.
    let e = c.args.event in
    let u = c.note-then-event.new.self in
    on_ok c.note-then-event.result
    (λ are. since_answer es c.args.index e at u
    (ap (λ (k : Kind). kind_eq k kind.Receive) c.in-Receive.is) c.if-event.true
    (subst (λ n. IsSince es (c.args.index + 1) (fresh n ∷ []) u) c.last_of_answer.ensures are))
    (c.note-then-event.ensures es [] since)

pub returns-in_ok-note-in-Send : goal.returns-in_ok-note-in-Send
returns-in_ok-note-in-Send c = λ es at since.
    let e = c.args.event in
    on_ok c.note-in-Send.result
    (since_stamp es c.args.index e at c.note-in-Send.new.self (not_receive e.kind c.in-Send.is))
    (c.note-in-Send.ensures es (e.serial ∷ []) (c.in_ok-note-in-Send.ensures es [] since))

pub returns-in_ok-note-in-Receive-2 : goal.returns-in_ok-note-in-Receive-2
returns-in_ok-note-in-Receive-2 c = λ es at since.
    let e = c.args.event in
    on_ok c.note-in-Receive-3.result
    (since_receive es c.args.index e at c.note-in-Receive-3.new.self
    (ap (λ (k : Kind). kind_eq k kind.Receive) c.in-Receive.is) c.if-event.false)
    (c.note-in-Receive-3.ensures es (fresh e.serial.prev ∷ e.serial ∷ [])
    (c.in_ok-note-in-Receive-2.ensures es (e.serial ∷ [])
    (c.in_ok-note-in-Receive.ensures es [] since)))
