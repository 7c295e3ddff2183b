-- The run `sends_unreported` does.
use Rattle.node_streams.proofs.Example.{no_order_there, nothing_unsent, unreported_outcomes}
use Rattle.node_streams.proofs.Example.{unreported_runs, unreported_shown}
use Rattle.node_streams.proofs.laws.an_unreported_send_can_leave_no_order.Goals as goal

pub returns : goal.returns
returns c = (
  unreported_outcomes,
  unreported_runs,
  unreported_shown,
  nothing_unsent,
  no_order_there,
)
