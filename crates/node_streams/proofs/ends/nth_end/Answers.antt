-- The search finds where the ends of the content begin, if there are any.
use Rattle.std.proofs.Common.{rules, ◌∙◌}
use Rattle.std.proofs.lemmas.List.Sorted.{IsPartitionPoint-from_clause}
use Rattle.node_streams.proofs.SortedEnds.{below_content, nth_read, parted}
use Rattle.node_streams.proofs.ends.nth_end.Goals as goal

pub returns : goal.returns
returns c = λ all are.
    let v = c.args.ends.now in
    let content = c.args.content in
    let point = IsPartitionPoint-from_clause (below_content content) v _
    c.partition_point-first.ensures.partitioned (parted all v are content)
    (λ a r q called. search rules) in
    c.index_if.ensures
    ∙ nth_read all v are content _ c.args.number _ c.partition_point-first.ensures.bound point
    c.end_behind.ensures
