-- The processes so far have their nodes, and a slot each.
use Rattle.std.proofs.Common.{◌≡◌, ℕ, ◌<◌, length, get_or}
use Rattle.st_world.proofs.Making.{AreMade}
use Rattle.st_world.proofs.nodes.Nodes.new.Given as goal

abbrev pub invariant-loop-number : goal.invariant-loop-number
invariant-loop-number l = record {
  made : AreMade l.pids l.number l.after l.places.items l.nodes.items;
  slots_len : length l.slots.items ≡ l.number;
  slots : (slot : ℕ) → slot < l.number → get_or l.slots.items slot 0 ≡ slot;
}
