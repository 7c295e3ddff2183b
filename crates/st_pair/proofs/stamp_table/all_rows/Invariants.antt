-- So far these are the rows of the streams that were taken.
use Rattle.std.proofs.Common.{◌≡◌, map, take}
use Rattle.st_pair.specs.Tables.{rows_in}
use Rattle.st_pair.proofs.stamp_table.all_rows.Given as goal

abbrev pub invariant-loop-pid : goal.invariant-loop-pid
invariant-loop-pid l = l.all.items ≡ map rows_in (take l.pid-index l.streams)
