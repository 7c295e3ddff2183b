-- If no listed process has an event on the line, no process has.
use Rattle.seqtool_commands.proofs.LineFirsts.{none_at_all}
use Rattle.seqtool_commands.proofs.line_numbers.LineNumbers.place.Goals as goal

pub returns-clause-missing : goal.returns-clause-missing
returns-clause-missing c =
    none_at_all c.args.self.now c.pids-pid-items.result.now c.args.line c.loop-pid.pid-index
    (rw (← c.self.view_is) c.pids-pid-items.ensures.value) c.loop-pid-test.false
    c.loop-pid.invariant
