-- Each verdict has its line.
use Rattle.seqtool_commands.proofs.check_node.tell_node_verdict.Goals as goal

pub returns-in-Stuck : goal.returns-in-Stuck
returns-in-Stuck g c = rw c.in-Stuck.is c.tell_line.ensures

pub returns-in-Differs : goal.returns-in-Differs
returns-in-Differs g c = rw c.in-Differs.is c.tell_line-in-Differs.ensures

pub returns-in-Left : goal.returns-in-Left
returns-in-Left g c = rw c.in-Left.is c.tell_line-in-Left.ensures

pub returns-in-Yes : goal.returns-in-Yes
returns-in-Yes g c = rw c.in-Yes.is c.tell_line-in-Yes.ensures
