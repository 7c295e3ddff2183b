-- Only the receive at the index before the stamp's can have brought the token.
use Rattle.std.proofs.Common.{◌≡◌, ◌-◌, ◌<◌, suc, length, get_or, arith, sym, ◌∙◌}
use Rattle.std.proofs.lemmas.Bool.{false≢true}
use Rattle.node_origins.proofs.Befores.{none_brings, receive_brings}
use Rattle.node_origins.proofs.walk.receive_before.Goals as goal
use Rattle.std.proofs.lemmas.Option.{slice_get_within as at_below, slice_get-get_or as at_get_or}
use Rattle.node_given.proofs.ForCallers.{blank}

pub returns-then-brings : goal.returns-then-brings
returns-then-brings c =
    let es = c.args.events.now in
    let within = at_below es c.args.index c.args.stamp c.requires.at in
    let other = c.if-index-eq0.false in
    let next : c.args.index ≡ suc (c.args.index - 1) = omega arith in
    let below : c.args.index - 1 < length es = omega arith in
    receive_brings es c.args.index (c.args.index - 1) c.args.stamp
    (get_or es (c.args.index - 1) blank) c.requires.at
    (at_get_or es (c.args.index - 1) blank below) next c.requires.fit c.args.way c.requires.stamps
    c.requires.given (c.brings.ensures.0 c.if-brings.true)

pub returns-else-brings : goal.returns-else-brings
returns-else-brings c =
    let es = c.args.events.now in
    let within = at_below es c.args.index c.args.stamp c.requires.at in
    let other = c.if-index-eq0.false in
    let next : c.args.index ≡ suc (c.args.index - 1) = omega arith in
    let below : c.args.index - 1 < length es = omega arith in
    none_brings es c.args.index (c.args.index - 1) c.args.stamp
    (get_or es (c.args.index - 1) blank) c.requires.at
    (at_get_or es (c.args.index - 1) blank below) next c.requires.fit c.args.way c.requires.stamps
    c.requires.given (λ by. false≢true (sym c.if-brings.false ∙ c.brings.ensures.1 by))
