-- The token that the event shows joins the table, unless the event is an answer.
use Rattle.std.proofs.Common.{refl}
use Rattle.node_given.proofs.ForCallers.{on_ok}
use Rattle.node_origins.proofs.SuccessorTables.{successors_answer, successors_more}
use Rattle.node_origins.proofs.successors.Successors.note.Goals as goal

pub returns-then-event : goal.returns-then-event
returns-then-event c = λ es at entry are.
    successors_answer es c.args.index c.args.event at c.args.self.now c.if-event.true are

pub returns : goal.returns
returns c = λ es at entry are.
    let e = c.args.event in
    on_ok c.add.result
    (λ now. successors_more es c.args.index e at c.if-event.false c.token_origins.result
    (c.token_origins.ensures es entry) c.args.self.now c.add.new.self are
    (record { label = e.label.0; prev = e.serial.prev; this = c.count_after.result }) refl refl
    c.count_after.ensures now)
    c.add.ensures
