-- Pairing refuses the streams for one reason, or their items have one order.
use Rattle.std.proofs.Common.{◌≡◌, None, rules, sym, ◌∙◌}
use Rattle.st_order.specs.Order.{IsOrder}
use Rattle.st_pair.specs.Pairing.{refusal}
use Rattle.st_audit.proofs.DeterminedFinding.{accepted_audit, refused_audit}
use Rattle.st_audit.proofs.auditing.finding_of.Goals as goal

pub returns-in-Some-clause-exact : goal.returns-in-Some-clause-exact
returns-in-Some-clause-exact g c =
    refused_audit g.row.TOP c.args.streams.now c.in-Err.fault c.in-Some.finding c.in-Err.ensures.err
    (sym c.unfit_by.ensures ∙ c.in-Some.is)

pub returns-clause-exact : goal.returns-clause-exact
returns-clause-exact g c =
    let streams = c.args.streams.now in
    let accepted : refusal streams ≡ None = search rules in
    let is_order : IsOrder streams c.as_slice.result.now = search rules in
    accepted_audit g.row.TOP streams c.as_slice.result.now c.finding_in_order.result
    c.pids-pids.ensures.streams.draft.rising accepted is_order c.finding_in_order.ensures.exact
