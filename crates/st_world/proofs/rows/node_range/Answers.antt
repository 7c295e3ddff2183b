-- Along rising pids nodes don't fall, so each search finds where its test changes its result.
use Rattle.std.proofs.Common.{leb, ltb, rules}
use Rattle.std.proofs.lemmas.List.Sorted.{IsPartitionPoint-from_clause, IsPartitionedBy-leb}
use Rattle.std.proofs.lemmas.List.Sorted.{IsPartitionedBy-ltb}
use Rattle.st_core.specs.declared.types.Pid.{Pid}
use Rattle.st_world.proofs.Pids.{nodes_rise, range_from_points}
use Rattle.st_world.proofs.rows.node_range.Goals as goal

pub returns : goal.returns
returns c =
    let rise = nodes_rise c.args.pids.now c.requires in
    let first =
    IsPartitionPoint-from_clause (λ (p : Pid). ltb p.node c.args.node) _ _
    c.partition_point-start.ensures.partitioned
    (IsPartitionedBy-ltb (λ (p : Pid). p.node) _ c.args.node rise)
    (λ a r q k. search rules) in
    let last =
    IsPartitionPoint-from_clause (λ (p : Pid). leb p.node c.args.node) _ _
    c.partition_point-end.ensures.partitioned
    (IsPartitionedBy-leb (λ (p : Pid). p.node) _ c.args.node rise) (λ a r q k. search rules) in
    range_from_points c.args.node c.args.pids.now c.partition_point-start.result
    c.partition_point-end.result
    c.partition_point-start.ensures.bound c.partition_point-end.ensures.bound first last
