-- The run `prints_again` does.
use Rattle.node_machine.proofs.Example.{answers, no_reset, one_need, one_put_back, origins}
use Rattle.node_machine.proofs.Example.{outcomes, own, reports, runs}
use Rattle.node_machine.proofs.laws.a_run_keeps_to_all_of_it.Goals as goal

pub returns : goal.returns
returns c = (outcomes, runs, no_reset, reports, own, origins, answers, one_need, one_put_back)
