-- The end of good lines: a bundle, or a fault that only all of them show.
use Rattle.std.specs.Prelude.{◌≡◌, ℕ, ◌+◌, List, [], ◌∷◌, length, Some, None, Result, Ok, Err}
use Rattle.std.specs.Prelude.{if◌then◌else◌}
use Rattle.st_core.specs.declared.types.Pid.{Pid}
use Rattle.st_core.specs.Pid.{pid_eq}
use Rattle.st_core.specs.Run.{Stream, pids_of}
use Rattle.st_core.specs.Streams.{events_of, IsStreams}
use Rattle.st_text.specs.declared.line.Line.{Line}
use Rattle.st_text.specs.declared.fault.ReadFault.{ReadFault}
use Rattle.st_text.specs.declared.bundle.Bundle.{Bundle}
use Rattle.st_text.specs.declared.builder.BundleBuilder.{BundleBuilder}
use Rattle.st_text.specs.Fault.{closing_fault}
use Rattle.st_text.specs.Parts.Builder.{so_far}

-- the number of the line of p's event with index i, if the first of these processes is on line n
abbrev pub line_at_place : (Pid → ℕ) → ℕ → List Pid → Pid → ℕ → ℕ
line_at_place count n [] p i = n
line_at_place count n (q ∷ ps) p i =
    if pid_eq q p then n + 1 + i else line_at_place count (n + 1 + count q) ps p i

abbrev pub event_line_number : List Stream → Pid → ℕ → ℕ
event_line_number streams p i =
    line_at_place (λ q. length (events_of streams q)) 2 (pids_of streams) p i

-- the lines are those of the bundle, and have no fault
pub record IsFinished (ls : List Line) (p : BundleBuilder) (b : Bundle) : Type 0 where
  pub lines : ls ≡ so_far p.wide b.streams b.acts
  pub closes : closing_fault ls ≡ None
  pub streams : IsStreams b.streams
  pub draft : b.streams ≡ p.draft
  pub acts : b.acts ≡ p.acts

abbrev pub Finishes : List Line → BundleBuilder → Result Bundle ReadFault → Type 0
Finishes ls p (Ok b) = IsFinished ls p b
Finishes ls p (Err f) = closing_fault ls ≡ Some f
