-- A stream's first fault is the first of all if no stream before it has a fault.
use Rattle.st_pair.specs.Rules.{fault_at}
use Rattle.st_pair.proofs.Firsts.{first-given, first-passed}
use Rattle.st_pair.proofs.rules.Rule.first_fault.Goals as goal

pub returns-in-Some : goal.returns-in-Some
returns-in-Some c = first-given
    (fault_at c.args.self.now c.args.streams.now) _ c.pids-pid-items.ensures.streams.draft.rising _
    _ _ _
    c.pids-pid-items.ensures.value c.loop-pid-test.true c.in-Some.ensures c.loop-pid.invariant

pub loop-pid-preserved : goal.loop-pid-preserved
loop-pid-preserved c = first-passed
    (fault_at c.args.self.now c.args.streams.now) _ c.pids-pid-items.ensures.streams.draft.rising _
    _ _
    c.pids-pid-items.ensures.value c.loop-pid-test.true c.in_default.ensures c.loop-pid.invariant
