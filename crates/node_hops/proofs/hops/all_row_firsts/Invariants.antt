-- The starts so far are those of the streams so far.
use Rattle.std.proofs.Common.{◌≡◌, take}
use Rattle.node_hops.specs.Kept.{all_row_firsts}
use Rattle.node_hops.proofs.hops.all_row_firsts.Given as goal

abbrev pub invariant-loop-pid : goal.invariant-loop-pid
invariant-loop-pid l = l.lists.items ≡ all_row_firsts (take l.pid-index l.streams)
