-- In a run no receive is unsent, and its acts order the events: so streams with an unsent receive
-- or a cycle have no run.
use Rattle.std.proofs.Common.{◌∙◌}
use Rattle.node_streams.proofs.InRuns.{all_sent, run_order}
use Rattle.node_streams.proofs.judgement.judge.Goals as goal

pub returns-clause-unsent_final : goal.returns-clause-unsent_final
returns-clause-unsent_final c = λ some pids acts os are.
    some (c.in_ok-unsent.ensures ∙ all_sent c.args.streams.now pids acts os are)

pub returns-clause-cycle_final : goal.returns-clause-cycle_final
returns-clause-cycle_final c = λ some pids acts os are.
    c.in_ok-cycle.ensures.some some (run_order c.args.streams.now pids acts os are)
