-- Before all turns each number is 0.
use Rattle.std.proofs.Common.{sym}
use Rattle.node_streams.proofs.Turns.{before_all}
use Rattle.node_streams.proofs.walk.Walk.new.Goals as goal

pub returns-clause-start : goal.returns-clause-start
returns-clause-start c =
    before_all c.args.streams.now c.pids-count.result.now _ (sym c.pids-count.ensures.value)
    (c.in_ok-done.ensures.items_if_clones_equal (λ y same. same))
