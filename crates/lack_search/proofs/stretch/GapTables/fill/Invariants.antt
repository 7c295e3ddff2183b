-- The table has a row for each receive taken so far.
use Rattle.std.proofs.Common.{◌≡◌, vec_len}
use Rattle.lack_search.proofs.stretch.GapTables.fill.Given as goal

abbrev pub invariant-loop-receive : goal.invariant-loop-receive
invariant-loop-receive l = vec_len l.self.by_count ≡ l.receive-index
