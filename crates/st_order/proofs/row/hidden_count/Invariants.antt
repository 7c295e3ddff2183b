-- The count is that of the hidden sends so far, and is at most the number of events so far.
use Rattle.std.proofs.Common.{◌≡◌, ◌≤◌, count_by, take}
use Rattle.st_order.specs.Items.{is_hidden}
use Rattle.st_order.proofs.row.hidden_count.Given as goal

abbrev pub invariant-loop-i : goal.invariant-loop-i
invariant-loop-i l = (l.count ≡ count_by (is_hidden l.streams) (take l.i l.events))
    × (l.count ≤ l.i)
