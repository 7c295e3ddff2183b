-- No send is taken out.
use Rattle.std.proofs.Common.{◌≤◌}
use Rattle.std.specs.BTreeMap.{btree_map_len}
use Rattle.lack_acts.proofs.climbs.Waiting.note_process.Given as goal

abbrev pub invariant-loop-index : goal.invariant-loop-index
invariant-loop-index l = btree_map_len l.fn.self.sends ≤ btree_map_len l.self.sends
