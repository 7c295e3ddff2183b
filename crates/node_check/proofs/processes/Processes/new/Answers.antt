-- At the start all is zero.
use Rattle.node_check.specs.declared.processes.Processes.{Processes}
use Rattle.node_check.proofs.Starting.{new_kept, new_state}
use Rattle.node_check.proofs.processes.Processes.new.Goals as goal

pub returns-clause-kept : goal.returns-clause-kept
returns-clause-kept c =
    new_kept c.args.pids.now _ c.in_ok-rows.ensures c.in_ok-queues.ensures.empty
    c.in_ok-nodes.ensures

pub returns-clause-zero : goal.returns-clause-zero
returns-clause-zero c =
    let x : Processes = record {
      rows = c.in_ok-rows.rows;
      queues = c.in_ok-queues.queues;
      nodes = c.in_ok-nodes.nodes;
    } in
    new_state c.args.pids.now x c.in_ok-rows.ensures c.in_ok-queues.ensures.empty
    c.in_ok-nodes.ensures
