-- Without acts each process is at zero, and each count is 0.
use Rattle.node_check.proofs.NextActs.{passed_start}
use Rattle.node_check.proofs.progress.Progress.new.Goals as goal

pub returns : goal.returns
returns c =
    passed_start c.args.streams.now c.pids-pids.result.now _
    c.pids-pids.ensures.streams.draft.rising
    c.pids-pids.ensures.value c.in_ok-processes.ensures.kept c.in_ok-processes.ensures.zero
    (c.in_ok-counts.ensures.items_if_clones_equal (λ y same. same))
