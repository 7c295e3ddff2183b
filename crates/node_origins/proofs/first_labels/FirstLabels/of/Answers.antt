-- Each event joins the table in turn.
use Rattle.std.proofs.Common.{◌≤◌, get_or, length, take, arith, sym, subst}
use Rattle.node_given.proofs.ForCallers.{taken_more, blank}
use Rattle.node_origins.specs.Tables.{AreFirstLabels}
use Rattle.node_origins.proofs.Homes.{length_taken}
use Rattle.node_origins.proofs.first_labels.FirstLabels.of.Goals as goal
use Rattle.std.proofs.lemmas.Option.{slice_get-get_or as at_get_or}

pub loop-index-preserved : goal.loop-index-preserved
loop-index-preserved c =
    let es = c.args.events.now in
    let i = c.loop-index.index in
    let e = get_or es i blank in
    let at = at_get_or es i blank c.loop-index-test.true in
    let below = c.loop-index-test.true in
    let within : c.loop-index.index ≤ length es = omega arith in
    subst (λ xs. AreFirstLabels xs c.note.new.self) (sym (taken_more es i e at))
    (c.in_ok-note.ensures (take i es) (length_taken i es within) c.loop-index.invariant)
