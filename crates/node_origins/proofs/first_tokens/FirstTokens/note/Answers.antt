-- The table keeps the number that it has for a token.
use Rattle.std.proofs.Common.{cond, Some, sym, ◌∙◌, ap}
use Rattle.std.specs.HashMap.{get}
use Rattle.node_origins.specs.Tables.{same_serial}
use Rattle.node_origins.proofs.TokenTables.{none_of, since_more, since_same}
use Rattle.node_origins.proofs.first_tokens.FirstTokens.note.Goals as goal
use Rattle.st_core.proofs.ForCallers.{some_of}

pub returns-then-contains_key : goal.returns-then-contains_key
returns-then-contains_key c = λ es xs since.
    let t = c.args.self.now in
    let there = some_of (get same_serial t.since (c.args.prev, c.count_after.result))
    (sym c.contains_key.ensures ∙ c.if-contains_key.true) in
    since_same es c.args.number xs (record { prev = c.args.prev; this = c.args.this }) t since
    there.0
    (ap (λ n. get same_serial t.since (c.args.prev, n)) (sym c.count_after.ensures) ∙ there.1)

pub returns-in-Ok : goal.returns-in-Ok
returns-in-Ok c = λ es xs since.
    let t = c.args.self.now in
    let none = none_of (get same_serial t.since (c.args.prev, c.count_after.result))
    (sym c.contains_key.ensures ∙ c.if-contains_key.false) in
    since_more es c.args.number xs (record { prev = c.args.prev; this = c.args.this }) t since
    (record { since = c.insert.new.self })
    (ap (λ n. get same_serial t.since (c.args.prev, n)) (sym c.count_after.ensures) ∙ none)
    (λ q. c.in-Ok.ensures.updates.0 q
    ∙ ap (λ n. cond (same_serial (c.args.prev, n) q) (Some c.args.number)
    (get same_serial t.since q)) c.count_after.ensures)
