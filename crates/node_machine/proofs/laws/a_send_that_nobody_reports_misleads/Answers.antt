-- The run `sends_silently` does.
use Rattle.node_machine.proofs.Example.{silent_can, silent_origins, silent_outcomes, silent_runs}
use Rattle.node_machine.proofs.Example.{silent_shown, silent_stamps}
use Rattle.node_machine.proofs.laws.a_send_that_nobody_reports_misleads.Goals as goal

pub returns : goal.returns
returns c = (
  silent_outcomes,
  silent_runs,
  silent_stamps,
  silent_origins,
  silent_shown.0,
  silent_shown.1,
  silent_shown.2,
  silent_can,
)
