-- For the parts alone: the first reason of one kind, and the results of walks over events.
use Rattle.std.specs.Prelude.{◌≡◌, ◌⊎◌, ℕ, ◌<◌, ◌≤◌, true, false, Bool, length, List, Option, Some}
use Rattle.std.specs.Prelude.{None, slice_get}
use Rattle.st_core.specs.declared.types.Event.{Event}
use Rattle.st_pair.specs.Laws.{IsEarlier}
use Rattle.st_pair.specs.Places.{is_stamp}
use Rattle.lack_decide.specs.Answers.{reason_rank}
use Rattle.lack_pieces.specs.declared.placed_reason.PlacedReason.{PlacedReason}
use Rattle.lack_pieces.specs.Pieces.{Piece}
use Rattle.lack_pieces.specs.Reasons.{IsAgainstIn}
use Rattle.lack_pieces.specs.Verdicts.{ComesBefore}

-- the reason is the earliest for which `Is` holds, or `Is` holds for none
abbrev pub IsEarliest : (PlacedReason → Type 0) → Option PlacedReason → Type 0
IsEarliest Is None = (other : PlacedReason) → ¬ Is other
IsEarliest Is (Some found) = Is found
    × ((other : PlacedReason) → Is other → ¬ IsEarlier other.pid other.index found.pid found.index)

-- a reason of the rank holds in the piece
pub record HoldsOfRank (top : ℕ) (piece : Piece) (rank : ℕ) (found : PlacedReason) : Type 0 where
  pub event : Event
  pub holds : IsAgainstIn top piece found.pid found.index event found.never
  pub of_rank : reason_rank found.never ≡ rank

abbrev pub IsFirstOfRank : ℕ → Piece → ℕ → Option PlacedReason → Type 0
IsFirstOfRank top piece rank found = IsEarliest (HoldsOfRank top piece rank) found

-- the earlier of a reason, if there is one, and the next
abbrev pub IsFirstWith : Option PlacedReason → PlacedReason → PlacedReason → Type 0
IsFirstWith None next result = result ≡ next
IsFirstWith (Some found) next result = ((result ≡ found) × ¬ ComesBefore next found)
    ⊎ ((result ≡ next) × ComesBefore next found)

-- the counts of the sends and prints rise
abbrev pub StampsRise : List Event → Type 0
StampsRise es = (j k : ℕ) (f e : Event) → j < k → slice_get es j ≡ Some f → slice_get es k ≡ Some e
    → is_stamp f ≡ true → is_stamp e ≡ true → f.serial.this < e.serial.this

-- event j is the last receive before index i whose count is at least `count`
pub record IsLastReceiveAt (es : List Event) (i count j : ℕ) : Type 0 where
  pub event : Event
  pub at : slice_get es j ≡ Some event
  pub before : j < i
  pub receives : is_stamp event ≡ false
  pub reaches : count ≤ event.serial.this
  pub last : (k : ℕ) (f : Event) → j < k → k < i → slice_get es k ≡ Some f → is_stamp f ≡ false
      → f.serial.this < count

-- the last receive before index i whose count is at least `count`, if there is one
abbrev pub IsLastReceive : List Event → ℕ → ℕ → Option ℕ → Type 0
IsLastReceive es i count None = (k : ℕ) (f : Event) → k < i → slice_get es k ≡ Some f
    → is_stamp f ≡ false → f.serial.this < count
IsLastReceive es i count (Some j) = IsLastReceiveAt es i count j

-- the next send or print from index `start` on whose count is at least `count`, or the end
pub record IsNextStamp (es : List Event) (start count next : ℕ) : Type 0 where
  pub behind : start ≤ next
  pub within : next ≤ length es
  pub passed : (k : ℕ) (f : Event) → start ≤ k → k < next → slice_get es k ≡ Some f
      → is_stamp f ≡ true → f.serial.this < count
  pub here : (f : Event) → slice_get es next ≡ Some f → (is_stamp f ≡ true)
      × (count ≤ f.serial.this)

-- whether event i has the count
abbrev pub HasCount : List Event → ℕ → ℕ → Bool → Type 0
HasCount es i count true = (f : Event) × (slice_get es i ≡ Some f) × (f.serial.this ≡ count)
HasCount es i count false = (f : Event) → slice_get es i ≡ Some f → ¬ (f.serial.this ≡ count)
