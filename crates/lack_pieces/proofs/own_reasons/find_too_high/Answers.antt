-- The first event whose count is too high is the first of its kind.
use Rattle.std.proofs.Common.{◌≤◌, get_or, refl, arith}
use Rattle.std.proofs.lemmas.Option.{slice_get_within}
use Rattle.st_core.specs.declared.types.Event.{Event}
use Rattle.st_pair.proofs.ForCallers.{at_get_or, blank}
use Rattle.lack_pieces.specs.Firsts.{HoldsOfRank}
use Rattle.lack_pieces.specs.Pieces.{Piece}
use Rattle.lack_pieces.proofs.Walks.{first_own, too_high}
use Rattle.lack_needs.proofs.ForCallers.{more_passed}
use Rattle.lack_pieces.proofs.own_reasons.find_too_high.Goals as goal

pub returns-then-event : goal.returns-then-event
returns-then-event g c = λ receipts.
    let es = c.args.events.now in
    let i = c.loop-i.i in
    let piece : Piece = record { pid = c.args.pid; events = es; receipts = receipts } in
    let at = at_get_or es i blank c.loop-i-test.true in
    first_own (HoldsOfRank g.row.TOP piece 6) c.args.pid _
    (record {
      event = get_or es i blank;
      holds = (record { own = refl; at = at }, omega arith);
      of_rank = refl;
    })
    (λ other h. (too_high g.row.TOP piece other h).0.own) refl
    (λ other h less.
    let x = too_high g.row.TOP piece other h in
    omega (arith, c.loop-i.invariant other.index h.event less x.0.at, x.1))

pub loop-i-preserved : goal.loop-i-preserved
loop-i-preserved g c =
    let es = c.args.events.now in
    let i = c.loop-i.i in
    more_passed (λ _ (e : Event). e.serial.this ≤ g.row.TOP) es i (get_or es i blank)
    (at_get_or es i blank c.loop-i-test.true) c.loop-i.invariant (omega arith)

pub returns : goal.returns
returns g c = λ receipts other h.
    let piece : Piece =
    record { pid = c.args.pid; events = c.args.events.now; receipts = receipts } in
    let x = too_high g.row.TOP piece other h in
    let within = slice_get_within c.args.events.now other.index h.event x.0.at in
    omega (arith, c.loop-i.invariant other.index h.event (omega (arith, within)) x.0.at, x.1)
