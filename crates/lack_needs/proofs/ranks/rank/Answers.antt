-- Lesser counts come first, so the place where the others begin is their number.
use Rattle.std.proofs.Common.{nat_lt, rules, sym, arith}
use Rattle.std.proofs.lemmas.List.Sorted.{IsPartitionedBy-ltb, IsPartitionPoint-from_clause}
use Rattle.lack_needs.proofs.Ranking.{rank_is}
use Rattle.lack_needs.proofs.ranks.rank.Goals as goal

pub returns : goal.returns
returns c =
    let xs = c.args.counts.now in
    let count = c.args.count in
    let point = IsPartitionPoint-from_clause (λ x. nat_lt x count) xs _
    c.partition_point.ensures.partitioned
    (IsPartitionedBy-ltb (λ x. x) xs count c.requires) (λ a r q called. search rules) in
    sym (rank_is xs count _ c.partition_point.ensures.bound
    (λ k d less. point.0 k d (omega arith) less)
    (λ k d past within. point.1 k d past within))
