-- The run `prints_what_came` does.
use Rattle.node_machine.proofs.Example.{come_no_reset, come_origins, come_outcomes, come_runs}
use Rattle.node_machine.proofs.Example.{come_sends, come_shown, come_stamps}
use Rattle.node_machine.proofs.laws.a_run_takes_a_message_unreported.Goals as goal

pub returns : goal.returns
returns c = (
  come_outcomes,
  come_runs,
  come_no_reset,
  come_stamps,
  come_sends,
  come_origins,
  come_shown.0,
  come_shown.1,
  come_shown.2,
)
