-- Counts rise, so that a row with the count is the only one, wherever it was looked for, and the
-- search by halves ends at it if there is one.
use Rattle.std.proofs.Common.{ltb, rules}
use Rattle.std.proofs.lemmas.List.Sorted.{IsPartitionPoint-from_clause, IsPartitionedBy-ltb}
use Rattle.st_pair.specs.declared.stamp_table.StampRow.{StampRow}
use Rattle.st_pair.proofs.StampRows.{found_at, none_at, rows_up}
use Rattle.st_pair.proofs.stamp_table.find_row.Goals as goal

pub returns-in-Some : goal.returns-in-Some
returns-in-Some c = found_at c.args.rows.now c.args.count _ _ c.requires c.in-Some.ensures

pub returns-in-Some-row_near : goal.returns-in-Some-row_near
returns-in-Some-row_near c =
    found_at c.args.rows.now c.args.count _ _ c.requires c.in-Some-row_near.ensures

pub returns-in-None : goal.returns-in-None
returns-in-None c =
    let rise = rows_up c.args.rows.now c.requires in
    let point =
    IsPartitionPoint-from_clause (λ (r : StampRow). ltb r.count c.args.count) _ _
    c.partition_point-number.ensures.partitioned
    (IsPartitionedBy-ltb (λ (r : StampRow). r.count) _ c.args.count rise)
    (λ a r q called. search rules) in
    none_at c.args.rows.now c.args.count _ c.requires point c.in-None.ensures

pub returns-in-Some-row_at : goal.returns-in-Some-row_at
returns-in-Some-row_at c =
    found_at c.args.rows.now c.args.count _ _ c.requires c.in-Some-row_at.ensures
