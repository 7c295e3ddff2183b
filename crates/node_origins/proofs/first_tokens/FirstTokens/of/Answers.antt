-- The table begins with the token that can be made before all events.
use Rattle.std.proofs.Common.{◌≡◌, ◌+◌, [], arith, subst}
use Rattle.node_origins.specs.Tables.{IsSince}
use Rattle.node_origins.proofs.TokenTables.{since_start}
use Rattle.node_origins.proofs.first_tokens.FirstTokens.of.Goals as goal
use Rattle.std.proofs.lemmas.Option.{slice_get-get_or as at_get_or}
use Rattle.node_given.proofs.ForCallers.{blank}

pub loop-index-init : goal.loop-index-init
loop-index-init c =
    let es = c.args.events.now in
    since_start es c.note.new.self (c.in_ok-note.ensures es [] (c.new-tokens.ensures es))

pub loop-index-preserved : goal.loop-index-preserved
loop-index-preserved c =
    let es = c.args.events.now in
    let i = c.loop-index.index in
    let same : c.loop-index.index + 2 ≡ c.loop-index.index + 1 + 1 = omega arith in
    subst (λ n. IsSince es n [] c.note_event.new.self) same
    (c.in_ok-note_event.ensures es (at_get_or es i blank c.loop-index-test.true)
    c.loop-index.invariant)
