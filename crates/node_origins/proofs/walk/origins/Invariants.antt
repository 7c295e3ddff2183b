-- So far each event has its entry, and the table has the tokens that the events show.
use Rattle.std.proofs.Common.{◌≡◌, ℕ, Some, length}
use Rattle.std.specs.List.{slice_get}
use Rattle.node_machine.specs.declared.types.Seen.{Seen}
use Rattle.node_origins.specs.declared.origin.EventOrigins.{EventOrigins}
use Rattle.node_origins.specs.Summary.{IsEntry}
use Rattle.node_origins.specs.Tables.{AreSuccessors}
use Rattle.node_origins.proofs.walk.origins.Given as goal

abbrev pub invariant-loop-index : goal.invariant-loop-index
invariant-loop-index l = record {
  count : length l.found.items ≡ l.index;
  entries : (k : ℕ) (e : Seen) (o : EventOrigins) → slice_get l.events k ≡ Some e
      → slice_get l.found.items k ≡ Some o → IsEntry l.events k e o;
  successors : AreSuccessors l.events l.index l.successors;
}
