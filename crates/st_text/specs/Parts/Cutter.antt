-- The lines so far and the unfinished line, in the terms of `cutter.rt`.
use Rattle.std.specs.Prelude.{◌≡◌, ℕ, ◌<◌, ◌==◌, Bool, true, false, List, [], ◌∷◌, ◌++◌, length}
use Rattle.std.specs.Prelude.{Option, Some, None}
use Rattle.std.specs.List.{AllByRecursion}
use Rattle.st_text.specs.declared.line.Line.{Line}
use Rattle.st_text.specs.declared.line.Line.TheVariants as lines
use Rattle.st_text.specs.declared.builder.BundleBuilder.{BundleBuilder}
use Rattle.st_text.specs.declared.step.Step.{Step}
use Rattle.st_text.specs.declared.step.Step.TheVariants.{Goes, Stops, Halts}
use Rattle.st_text.specs.declared.limits.Limits.{Limits}
use Rattle.st_text.specs.Fault.{line_fault}
use Rattle.st_text.specs.Parts.Builder.{IsBuilt, NeedsRoom}

-- ---- the lines so far, and the next one

-- the builder has taken these lines; there are none if there is no builder
abbrev pub IsStateAfter : Option BundleBuilder → List Line → Type 0
IsStateAfter None ls = ls ≡ []
IsStateAfter (Some p) ls = IsBuilt p ls

-- the bytes say line l, which has no fault, and the builder has taken it
pub record Adds (limits : Limits) (ls : List Line) (said : Option Line) (new : Option BundleBuilder)
    (l : Line) : Type
    0 where
  pub said_is : said ≡ Some l
  pub good : line_fault limits ls (Some l) ≡ None
  pub held : IsStateAfter new (ls ++ l ∷ [])

abbrev pub TakesSaid : Limits → List Line → Option Line → Option BundleBuilder → Step → Type 0
TakesSaid limits ls said new Goes = (l : Line) × Adds limits ls said new l
TakesSaid limits ls said new (Stops f) = line_fault limits ls said ≡ Some f
TakesSaid limits ls said new Halts = NeedsRoom limits ls said

abbrev pub header_of : Option Line → Option Bool
header_of (Some (lines.Header wide)) = Some wide
header_of (Some (lines.Process p)) = None
header_of (Some (lines.Event e)) = None
header_of (Some lines.Acts) = None
header_of (Some (lines.Act a)) = None
header_of None = None

-- ---- the unfinished line

-- the length of the longest line: a receive event with the greatest number in each place
abbrev pub longest : ℕ
longest = 131

-- no byte is a newline
abbrev pub HasNoNewline : List ℕ → Type 0
HasNoNewline bytes = AllByRecursion (λ b. (b == 10) ≡ false) bytes

-- the unfinished line is kept, or is known to be longer than any line
abbrev pub IsTail : Bool → List ℕ → List ℕ → Type 0
IsTail false kept tail = kept ≡ tail
IsTail true kept tail = longest < length tail
