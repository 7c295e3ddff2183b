-- The node's mark is written, through which each row of the node is seen.
use Rattle.std.proofs.Common.{◌<◌, length, refl, ◌∙◌, rules}
use Rattle.node_check.proofs.Wide.{done_trace_by}
use Rattle.node_check.proofs.processes.Processes.trace.Goals as goal

pub returns : goal.returns
returns c = λ pids place rising kept at.
    let in_nodes : c.from.result < length c.args.self.now.nodes.items = search rules in
    done_trace_by _ place c.args.me rising kept at refl refl c.args.on c.from.result
    c.index_mut.result.now (c.from.ensures ∙ c.node.ensures) in_nodes c.index_mut.ensures.value refl
