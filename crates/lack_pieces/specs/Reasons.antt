-- The reasons of `complete`, read in a piece alone.
use Rattle.std.specs.Prelude.{◌≡◌, ◌⊎◌, ℕ, ◌<◌, true, List, [], ◌∷◌, Some, None, slice_get}
use Rattle.st_core.specs.declared.types.Pid.{Pid}
use Rattle.st_core.specs.declared.types.Event.{Event}
use Rattle.st_core.specs.Run.{Stream}
use Rattle.st_pair.specs.Laws.{IsEarlier}
use Rattle.st_pair.specs.Pairing.{stamp_of}
use Rattle.st_pair.specs.Places.{is_stamp}
use Rattle.lack_decide.specs.declared.answer.Never.{Never}
use Rattle.lack_decide.specs.declared.answer.Never.TheVariants as never
use Rattle.lack_decide.specs.Answers.{IsAfterReceive, IsAgainst, IsSendOf}
use Rattle.lack_pieces.specs.Pieces.{IsOwnEvent, IsReceipt, Piece}

-- the process's own events as streams, as if there were no other process
abbrev pub own_streams : Piece → List Stream
own_streams piece = record { pid = piece.pid; events = piece.events } ∷ []

-- event i of p is a send or print of the piece's process
abbrev pub IsOwnStamp : Piece → Pid → ℕ → Event → Type 0
IsOwnStamp piece p i e = IsOwnEvent piece p i e × (is_stamp e ≡ true)

-- event i of p is the receive of a message that the piece's process didn't report to have sent
abbrev pub IsHiddenReceipt : Piece → Pid → ℕ → Event → Type 0
IsHiddenReceipt piece p i e = IsReceipt piece p i e
    × (stamp_of (own_streams piece) piece.pid e.serial.this ≡ None)

-- an event shows that the process made a send or print with a lower count than e's and another
-- prev than 0: it is that send or print, or the receive of its message
pub record HasStampBelow (piece : Piece) (e : Event) : Type 0 where
  pub pid : Pid
  pub index : ℕ
  pub first : Event
  pub tells : IsOwnStamp piece pid index first ⊎ IsReceipt piece pid index first
  pub lower : first.serial.this < e.serial.this
  pub above : 0 < first.serial.prev

-- the reason holds against event i of p in the piece
abbrev pub IsAgainstIn : ℕ → Piece → Pid → ℕ → Event → Never → Type 0
IsAgainstIn top piece p i e (never.Repeated q j) = IsReceipt piece p i e × IsEarlier q j p i
    × (f : Event) × IsReceipt piece q j f × (f.serial.this ≡ e.serial.this)
IsAgainstIn top piece p i e (never.Mismatch q j) = IsReceipt piece p i e × (q ≡ piece.pid)
    × (f : Event) × (stamp_of (own_streams piece) q e.serial.this ≡ Some (j, f)) × (¬ IsSendOf f e)
IsAgainstIn top piece p i e never.Unfounded = (e.serial.prev ≡ 0)
    × ((IsOwnEvent piece p i e × IsAfterReceive (own_streams piece) p i e)
    ⊎ ((IsOwnStamp piece p i e ⊎ IsHiddenReceipt piece p i e) × HasStampBelow piece e))
IsAgainstIn top piece p i e reason = IsOwnEvent piece p i e
    × IsAgainst top (own_streams piece) p i e reason

-- the reason holds in one of the pieces
pub record IsAgainstInSome (top : ℕ) (pieces : List Piece) (p : Pid) (i : ℕ) (e : Event)
    (reason : Never) : Type 0 where
  pub place : ℕ
  pub piece : Piece
  pub at : slice_get pieces place ≡ Some piece
  pub against : IsAgainstIn top piece p i e reason
