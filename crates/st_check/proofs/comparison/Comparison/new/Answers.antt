-- Without acts each count is 0, and each list of tags is empty.
use Rattle.std.proofs.Common.{sym, ap}
use Rattle.st_core.specs.Run.{pids_of}
use Rattle.st_core.specs.State.{zero_state}
use Rattle.st_check.proofs.PassedActs.{passed_start}
use Rattle.st_check.proofs.comparison.Comparison.new.Goals as goal

pub returns : goal.returns
returns c = λ top.
    let pids = c.pids-pids.ensures.value in
    passed_start top c.args.streams.now c.pids-pids.result.now
    (zero_state (pids_of c.args.streams.now))
    c.in_ok-counts.counts.items c.in_ok-tags.tags.lists c.new-2.result pids
    (ap zero_state (sym pids))
    (c.in_ok-counts.ensures.items_if_clones_equal (λ y same. same)) c.in_ok-tags.ensures.empty
    c.new-2.ensures
