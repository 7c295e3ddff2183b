-- For the parts alone: the lowest counts with another prev than 0, and the events that are
-- unfounded by them.
use Rattle.std.specs.Prelude.{◌≡◌, ◌⊎◌, ℕ, ◌<◌, ◌≤◌, true, List, Option, Some, None, slice_get}
use Rattle.st_core.specs.declared.types.Event.{Event}
use Rattle.st_pair.specs.Places.{is_stamp}
use Rattle.lack_decide.specs.declared.answer.Never.TheVariants as never
use Rattle.lack_decide.specs.Answers.{IsAfterReceive}
use Rattle.lack_pieces.specs.declared.placed_reason.Receipt.{Receipt}
use Rattle.lack_pieces.specs.declared.placed_reason.PlacedReason.{PlacedReason}
use Rattle.lack_pieces.specs.declared.unfounded_events.Lowest.{Lowest}
use Rattle.lack_pieces.specs.Pieces.{Piece}
use Rattle.lack_pieces.specs.Reasons.{own_streams, HasStampBelow, IsHiddenReceipt, IsOwnStamp}

-- a send or print with another prev than 0 has the count
pub record IsStampCounted (es : List Event) (count : ℕ) : Type 0 where
  pub place : ℕ
  pub event : Event
  pub at : slice_get es place ≡ Some event
  pub stamps : is_stamp event ≡ true
  pub above : 0 < event.serial.prev
  pub is : event.serial.this ≡ count

-- a receipt with another prev than 0 has the count
pub record IsReceiptCounted (receipts : List Receipt) (count : ℕ) : Type 0 where
  pub place : ℕ
  pub receipt : Receipt
  pub at : slice_get receipts place ≡ Some receipt
  pub above : 0 < receipt.event.serial.prev
  pub is : receipt.event.serial.this ≡ count

-- the lowest count for which `Is` holds, if there is one
abbrev pub IsLowest : (ℕ → Type 0) → Option ℕ → Type 0
IsLowest Is None = (count : ℕ) → ¬ Is count
IsLowest Is (Some low) = Is low × ((count : ℕ) → Is count → low ≤ count)

-- the lowest counts of a piece's events and of its receipts
pub record IsLowestIn (piece : Piece) (lowest : Lowest) : Type 0 where
  pub stamps : IsLowest (IsStampCounted piece.events) lowest.stamps
  pub receipts : IsLowest (IsReceiptCounted piece.receipts) lowest.receipts

-- a count is known, and is below the given one
abbrev pub IsKnownBelow : Option ℕ → ℕ → Type 0
IsKnownBelow None count = ⊥
IsKnownBelow (Some known) count = known < count

-- a send or print with prev 0 comes after a receive, or has a greater count than a send or print
-- with another prev
pub record IsUnfoundedStamp (piece : Piece) (found : PlacedReason) : Type 0 where
  pub event : Event
  pub own : IsOwnStamp piece found.pid found.index event
  pub zero : event.serial.prev ≡ 0
  pub why : IsAfterReceive (own_streams piece) found.pid found.index event
      ⊎ HasStampBelow piece event
  pub is : found.never ≡ never.Unfounded

-- an unreported send with prev 0, whose receipt is there, has a greater count than a send or print
-- with another prev
pub record IsUnfoundedReceipt (piece : Piece) (found : PlacedReason) : Type 0 where
  pub event : Event
  pub hidden : IsHiddenReceipt piece found.pid found.index event
  pub zero : event.serial.prev ≡ 0
  pub behind : HasStampBelow piece event
  pub is : found.never ≡ never.Unfounded
