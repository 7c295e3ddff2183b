-- The run `wraps` does.
use Rattle.node_machine.proofs.Example.{wrap_outcomes, wrap_own, wrap_reports, wrap_runs}
use Rattle.node_machine.proofs.Example.{wrap_shown}
use Rattle.node_machine.proofs.laws.a_run_goes_through_the_wrap.Goals as goal

pub returns : goal.returns
returns c = (wrap_outcomes, wrap_runs, wrap_reports, wrap_own, wrap_shown)
