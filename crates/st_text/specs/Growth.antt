-- When the reader has to keep something of a piece, so that memory may run out: a line that a
-- bundle holds, or bytes of a line that isn't whole in the piece.
use Rattle.std.specs.Prelude.{◌≡◌, ℕ, ◌<◌, Bool, true, false, List, [], ◌∷◌, ◌++◌, length, map}
use Rattle.std.specs.Prelude.{Some, None}
use Rattle.st_text.specs.declared.line.Line.{Line}
use Rattle.st_text.specs.declared.line.Line.TheVariants as lines
use Rattle.st_text.specs.declared.limits.Limits.{Limits}
use Rattle.st_text.specs.Fault.{cut, sayings, first_fault}

-- the line is one that a bundle holds: a process, an event or an act
abbrev pub is_kept_line : Line → Bool
is_kept_line (lines.Header b) = false
is_kept_line (lines.Process p) = true
is_kept_line (lines.Event e) = true
is_kept_line lines.Acts = false
is_kept_line (lines.Act a) = true

-- the lines are good, and a bundle holds the last of them
pub record EndsKept (limits : Limits) (bytes : List ℕ) : Type 0 where
  pub before : List Line
  pub line : Line
  pub lines : sayings bytes ≡ map Some (before ++ line ∷ [])
  pub good : first_fault limits [] (sayings bytes) ≡ None
  pub kept : is_kept_line line ≡ true

-- the lines are good, and bytes of an unfinished line follow
pub record EndsWithin (limits : Limits) (bytes : List ℕ) : Type 0 where
  pub good : first_fault limits [] (sayings bytes) ≡ None
  pub some : 0 < length (cut bytes).1

-- The piece after these bytes has something to keep: a line that ends in it, its bytes for a line
-- that was unfinished before it, or its bytes of a line that it leaves unfinished.
pub data Grows (limits : Limits) (bytes piece : List ℕ) : Type 0 where
  KeepsLine : (front back : List ℕ) → piece ≡ front ++ back → EndsKept limits (bytes ++ front)
      → Grows limits bytes piece
  EndsLine : EndsWithin limits bytes → 0 < length piece → Grows limits bytes piece
  LeavesBytes : EndsWithin limits (bytes ++ piece) → 0 < length piece → Grows limits bytes piece
