-- The processes that are found are the ends of the items that have the label, and rise as all
-- processes do.
use Rattle.std.proofs.Common.{sym, subst}
use Rattle.std.specs.BTreeSet.{contains}
use Rattle.std.proofs.lemmas.Result.{IfOk-weaker}
use Rattle.st_core.specs.Pid.{pid_cmp, IsRising}
use Rattle.st_core.specs.Run.{pids_of}
use Rattle.st_chart.proofs.Cuts.{some_rise}
use Rattle.st_chart.proofs.Ends.{lanes_are}
use Rattle.st_chart.proofs.lanes.lanes_of.Goals as goal

pub returns-clause-lanes : goal.returns-clause-lanes
returns-clause-lanes c =
    let ends = contains pid_cmp c.in_ok-ends.ends in
    let are =
    lanes_are c.args.streams.now c.args.label c.args.items.now ends (λ p. c.in_ok-ends.ensures p) in
    rw are at (rw c.pids.ensures.value at c.ends_among.ensures)

pub returns-clause-rising : goal.returns-clause-rising
returns-clause-rising c =
    let ends = contains pid_cmp c.in_ok-ends.ends in
    let rise = some_rise ends (pids_of c.args.streams.now) c.pids.ensures.streams.draft.rising in
    IfOk-weaker c.ends_among.result _ (λ pids. IsRising pids.items)
    (λ pids is. subst IsRising (sym is) rise)
    (rw c.pids.ensures.value at c.ends_among.ensures)
