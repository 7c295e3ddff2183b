-- The acts go on from none at zero clocks, so they have a run from there.
use Rattle.std.proofs.Common.{sym, subst}
use Rattle.st_core.specs.Run.{pids_of}
use Rattle.lack_acts.specs.Acts.{IsBegun, RunsWithin}
use Rattle.lack_acts.proofs.Running.{runs_within}
use Rattle.lack_acts.proofs.lean.acts_in_order.Goals as goal

pub returns : goal.returns
returns g c =
    let pids = pids_of c.args.streams.now in
    let most = c.args.most in
    let begun = subst (λ ps. IsBegun ps most c.in_ok-acts.acts) c.pids.ensures.value
    c.in_ok-acts.ensures in
    subst (RunsWithin g.row.TOP most pids) (sym c.into_acts.ensures)
    (runs_within pids most _ _ begun c.in_ok-append_all.ensures)
