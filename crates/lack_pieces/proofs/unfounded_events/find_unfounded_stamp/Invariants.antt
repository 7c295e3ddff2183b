-- No send or print so far is unfounded, and it is known whether an event so far is a receive.
use Rattle.std.proofs.Common.{List}
use Rattle.lack_pieces.specs.declared.placed_reason.Receipt.{Receipt}
use Rattle.lack_pieces.specs.Lowest.{IsLowestIn}
use Rattle.lack_pieces.specs.Pieces.{Piece}
use Rattle.lack_pieces.proofs.Founding.{IsFoundedBelow, IsReceived}
use Rattle.lack_pieces.proofs.unfounded_events.find_unfounded_stamp.Given as goal

abbrev pub invariant-loop-i : goal.invariant-loop-i
invariant-loop-i l = record {
  founded : (receipts : List Receipt)
      → (let piece : Piece = record { pid = l.pid; events = l.events; receipts = receipts } in
      IsLowestIn piece l.lowest → IsFoundedBelow piece l.i);
  received : IsReceived l.events l.i l.received;
}
