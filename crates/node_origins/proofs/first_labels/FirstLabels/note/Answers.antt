-- The table keeps the first bearer that it has.
use Rattle.std.proofs.Common.{nat_eq, sym, ◌∙◌}
use Rattle.std.specs.HashMap.{get}
use Rattle.node_origins.proofs.LabelTables.{labels_answer, labels_more, labels_same}
use Rattle.node_origins.proofs.TokenTables.{none_of}
use Rattle.node_origins.specs.Tables.{first_in}
use Rattle.node_origins.proofs.first_labels.FirstLabels.note.Goals as goal
use Rattle.st_core.proofs.ForCallers.{some_of}

pub returns-then-event : goal.returns-then-event
returns-then-event c = λ es long are label.
    labels_answer es c.args.event c.if-event.true label (first_in c.args.self.now label) (are label)

pub returns-then-contains_key : goal.returns-then-contains_key
returns-then-contains_key c = λ es long are.
    let t = c.args.self.now in
    let there = some_of (get nat_eq t.bearers c.args.event.label.0)
    (sym c.contains_key.ensures ∙ c.if-contains_key.true) in
    labels_same es c.args.event (λ n. get nat_eq t.bearers n) are there.0 there.1

pub returns-in-Ok : goal.returns-in-Ok
returns-in-Ok c = λ es long are.
    let t = c.args.self.now in
    labels_more es c.args.event (λ n. get nat_eq t.bearers n) are
    (λ n. get nat_eq c.insert.new.self n) c.args.index c.receives-receives.result (sym long)
    (sym c.receives-receives.ensures) c.if-event.false
    (none_of (get nat_eq t.bearers c.args.event.label.0)
    (sym c.contains_key.ensures ∙ c.if-contains_key.false))
    (λ n. c.in-Ok.ensures.updates.0 n)
