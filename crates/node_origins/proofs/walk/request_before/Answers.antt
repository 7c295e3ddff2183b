-- The answer and its request are at the two indices before the stamp's.
use Rattle.std.proofs.Common.{◌≡◌, ◌-◌, ◌<◌, suc, length, get_or, arith, sym, ◌∙◌, ap}
use Rattle.std.specs.List.{slice_get}
use Rattle.std.proofs.lemmas.Bool.{false≢true}
use Rattle.node_origins.specs.declared.origin.EventOrigins.TheVariants as origins
use Rattle.node_origins.proofs.Befores.{none_requests, request_gives}
use Rattle.node_origins.proofs.walk.request_before.Goals as goal
use Rattle.std.proofs.lemmas.Option.{slice_get_within as at_below, slice_get-get_or as at_get_or}
use Rattle.node_given.proofs.ForCallers.{blank}

pub returns-then-goes_on_from : goal.returns-then-goes_on_from
returns-then-goes_on_from c =
    let es = c.args.events.now in
    let found = c.args.found.now in
    let within = at_below es c.args.index c.args.stamp c.requires.at in
    let other = c.if-index-lt2.false in
    let all = c.requires.all in
    let next : c.args.index ≡ suc (suc (c.args.index - 2)) = omega arith in
    let same : suc (c.args.index - 2) ≡ c.args.index - 1 = omega arith in
    let below : c.args.index - 1 < length es = omega arith in
    let lower : c.args.index - 2 < length es = omega arith in
    let there : c.args.index - 2 < length found = omega arith in
    let at = at_get_or es (c.args.index - 2) blank lower in
    request_gives es c.args.index (c.args.index - 2) c.args.stamp
    (get_or es (c.args.index - 1) blank) (get_or es (c.args.index - 2) blank) c.requires.at
    (ap (slice_get es) same ∙ at_get_or es (c.args.index - 1) blank below) at next
    (c.goes_on_from.ensures.0 c.if-goes_on_from.true)
    (get_or found (c.args.index - 2) origins.Receive)
    (c.requires.entries (c.args.index - 2) (get_or es (c.args.index - 2) blank)
    (get_or found (c.args.index - 2) origins.Receive) at
    (at_get_or found (c.args.index - 2) origins.Receive there))

pub returns-else-goes_on_from : goal.returns-else-goes_on_from
returns-else-goes_on_from c =
    let es = c.args.events.now in
    let within = at_below es c.args.index c.args.stamp c.requires.at in
    let other = c.if-index-lt2.false in
    let next : c.args.index ≡ suc (suc (c.args.index - 2)) = omega arith in
    let same : suc (c.args.index - 2) ≡ c.args.index - 1 = omega arith in
    let below : c.args.index - 1 < length es = omega arith in
    let lower : c.args.index - 2 < length es = omega arith in
    none_requests es c.args.index (c.args.index - 2) c.args.stamp
    (get_or es (c.args.index - 1) blank) (get_or es (c.args.index - 2) blank) c.requires.at
    (ap (slice_get es) same ∙ at_get_or es (c.args.index - 1) blank below)
    (at_get_or es (c.args.index - 2) blank lower) next
    (λ goes. false≢true (sym c.if-goes_on_from.false ∙ c.goes_on_from.ensures.1 goes))
