-- The verdict on a piece and on streams: the first reason that holds, or none.
use Rattle.std.specs.Prelude.{◌≡◌, ◌⊎◌, ℕ, ◌<◌, List, Option, Some, None, length, slice_get}
use Rattle.st_core.specs.declared.types.Pid.{Pid}
use Rattle.st_core.specs.declared.types.Event.{Event}
use Rattle.st_core.specs.Run.{Stream}
use Rattle.st_pair.specs.Laws.{IsEarlier}
use Rattle.st_pair.specs.Places.{event_at}
use Rattle.lack_decide.specs.declared.answer.Never.{Never}
use Rattle.lack_decide.specs.declared.answer.Answer.{Answer}
use Rattle.lack_decide.specs.declared.answer.Answer.TheVariants as answer
use Rattle.lack_decide.specs.Answers.{reason_rank, IsAgainst, IsFirstReason}
use Rattle.lack_pieces.specs.declared.placed_reason.Receipt.{Receipt}
use Rattle.lack_pieces.specs.declared.placed_reason.PlacedReason.{PlacedReason}
use Rattle.lack_pieces.specs.Pieces.{Piece}
use Rattle.lack_pieces.specs.Reasons.{IsAgainstIn}

-- a is of an earlier kind than b, or of the same kind and at an earlier place
abbrev pub ComesBefore : PlacedReason → PlacedReason → Type 0
ComesBefore a b = (reason_rank a.never < reason_rank b.never)
    ⊎ ((reason_rank a.never ≡ reason_rank b.never) × IsEarlier a.pid a.index b.pid b.index)

-- the receipts are by rising count, and with equal counts by rising place
abbrev pub AreInOrder : List Receipt → Type 0
AreInOrder receipts = (j k : ℕ) (a b : Receipt) → j < k → slice_get receipts j ≡ Some a
    → slice_get receipts k ≡ Some b
    → (a.event.serial.this < b.event.serial.this)
    ⊎ ((a.event.serial.this ≡ b.event.serial.this) × IsEarlier a.pid a.index b.pid b.index)

-- the reason holds in the piece, and no other that holds there comes before it
pub record IsFirstIn (top : ℕ) (piece : Piece) (found : PlacedReason) : Type 0 where
  pub event : Event
  pub holds : IsAgainstIn top piece found.pid found.index event found.never
  pub first : (other : PlacedReason) (e : Event)
      → IsAgainstIn top piece other.pid other.index e other.never → ¬ ComesBefore other found

-- the verdict on a piece is the first reason that holds in it, or none if none does
abbrev pub IsVerdictIn : ℕ → Piece → Option PlacedReason → Type 0
IsVerdictIn top piece None = (other : PlacedReason) (e : Event)
    → ¬ IsAgainstIn top piece other.pid other.index e other.never
IsVerdictIn top piece (Some found) = IsFirstIn top piece found

-- the verdicts are those on the pieces, one each
pub record AreVerdicts (top : ℕ) (pieces : List Piece) (verdicts : List (Option PlacedReason))
    : Type 0 where
  pub even : length verdicts ≡ length pieces
  pub each : (k : ℕ) (piece : Piece) (verdict : Option PlacedReason)
      → slice_get pieces k ≡ Some piece
      → slice_get verdicts k ≡ Some verdict → IsVerdictIn top piece verdict

-- a verdict names the reason
pub record IsVerdictAmong (verdicts : List (Option PlacedReason)) (found : PlacedReason) : Type 0
  where
    pub place : ℕ
    pub at : slice_get verdicts place ≡ Some (Some found)

-- the first of the reasons that the verdicts name, or none if they name none
abbrev pub IsFirstAmong : List (Option PlacedReason) → Option PlacedReason → Type 0
IsFirstAmong verdicts None = (other : PlacedReason) → ¬ IsVerdictAmong verdicts other
IsFirstAmong verdicts (Some found) = IsVerdictAmong verdicts found
    × ((other : PlacedReason) → IsVerdictAmong verdicts other → ¬ ComesBefore other found)

-- the verdict of `complete` on streams is the reason that it names, or none if none holds
abbrev pub IsVerdictOn : ℕ → List Stream → Option PlacedReason → Type 0
IsVerdictOn top streams None = (p : Pid) (i : ℕ) (e : Event) (reason : Never)
    → event_at streams p i ≡ Some e → ¬ IsAgainst top streams p i e reason
IsVerdictOn top streams (Some found) =
    IsFirstReason top streams found.pid found.index found.never

-- `complete` returns the verdict: a completion if no reason holds, else the reason and its place
abbrev pub IsNamed : Answer → Option PlacedReason → Type 0
IsNamed (answer.Whole completed) verdict = verdict ≡ None
IsNamed (answer.Never p i reason) verdict =
    verdict ≡ Some (record { pid = p; index = i; never = reason })
