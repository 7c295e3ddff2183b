-- The piece of a process: all of its events, and the receives of its messages.
use Rattle.std.specs.Prelude.{◌≡◌, ◌↔◌, ℕ, true, false, List, Some, slice_get}
use Rattle.st_core.specs.declared.types.Pid.{Pid}
use Rattle.st_core.specs.declared.types.Event.{Event}
use Rattle.st_core.specs.Run.{Stream}
use Rattle.st_core.specs.Streams.{events_of, lists}
use Rattle.st_pair.specs.Places.{event_at, is_stamp}
use Rattle.lack_pieces.specs.declared.placed_reason.Receipt.{Receipt}

-- the events that a process reported, and the receives of its messages that others reported
pub record Piece : Type 0 where
  pub pid : Pid
  pub events : List Event
  pub receipts : List Receipt

-- event i of p is one that the piece's process reported
pub record IsOwnEvent (piece : Piece) (p : Pid) (i : ℕ) (e : Event) : Type 0 where
  pub own : p ≡ piece.pid
  pub at : slice_get piece.events i ≡ Some e

-- event i of p is the receive of a message of the piece's process
pub record IsReceipt (piece : Piece) (p : Pid) (i : ℕ) (e : Event) : Type 0 where
  pub place : ℕ
  pub at : slice_get piece.receipts place ≡ Some (record { pid = p; index = i; event = e })

-- event i of p in the streams is a receive from q
pub record IsReceiveFrom (streams : List Stream) (q p : Pid) (i : ℕ) (e : Event) : Type 0 where
  pub at : event_at streams p i ≡ Some e
  pub receives : is_stamp e ≡ false
  pub from : e.from ≡ q

-- the piece has exactly its process's events in the streams, and the receives from it
pub record IsPieceOf (streams : List Stream) (piece : Piece) : Type 0 where
  pub events : piece.events ≡ events_of streams piece.pid
  pub receipts : (p : Pid) (i : ℕ) (e : Event)
      → (IsReceipt piece p i e ↔ IsReceiveFrom streams piece.pid p i e)

-- the piece of p is in the list
pub record HasPiece (pieces : List Piece) (p : Pid) : Type 0 where
  pub place : ℕ
  pub piece : Piece
  pub at : slice_get pieces place ≡ Some piece
  pub of : piece.pid ≡ p

-- each of the pieces is one of the streams, and each listed process has one
pub record ArePieces (streams : List Stream) (pieces : List Piece) : Type 0 where
  pub each : (k : ℕ) (piece : Piece) → slice_get pieces k ≡ Some piece → IsPieceOf streams piece
  pub all : (p : Pid) → lists streams p ≡ true → HasPiece pieces p
