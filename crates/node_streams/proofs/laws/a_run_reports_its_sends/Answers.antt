-- The run `sends_twice` does.
use Rattle.node_streams.proofs.Example.{twice_run, twice_outcomes}
use Rattle.node_streams.proofs.laws.a_run_reports_its_sends.Goals as goal

pub returns : goal.returns
returns c = (twice_outcomes, twice_run)
