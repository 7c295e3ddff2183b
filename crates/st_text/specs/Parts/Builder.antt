-- A builder after some good lines, from the header on.
use Rattle.std.specs.Prelude.{◌≡◌, Bool, true, List, [], ◌∷◌, ◌++◌, length, Option, Some, None}
use Rattle.std.specs.Prelude.{is_some}
use Rattle.std.specs.List.{count_by, list_any}
use Rattle.st_core.specs.declared.types.Act.{Act}
use Rattle.st_core.specs.Pid.{IsRising}
use Rattle.st_core.specs.Run.{Stream, pids_of}
use Rattle.st_text.specs.declared.line.Line.{Line}
use Rattle.st_text.specs.declared.line.Line.TheVariants as lines
use Rattle.st_text.specs.declared.builder.BundleBuilder.{BundleBuilder}
use Rattle.st_text.specs.declared.step.Step.{Step}
use Rattle.st_text.specs.declared.step.Step.TheVariants.{Goes, Stops, Halts}
use Rattle.st_text.specs.declared.limits.Limits.{Limits}
use Rattle.st_text.specs.Text.{body, is_remote}
use Rattle.st_text.specs.Fault.{pids, last_of, has_acts, is_event, is_act, is_wide_header}
use Rattle.st_text.specs.Fault.{line_fault}
use Rattle.st_text.specs.Growth.{is_kept_line}
use Rattle.st_text.specs.Parts.Counts.{acts_len}

-- a header, and the lines of these streams and acts
abbrev pub so_far : Bool → List Stream → Option (List Act) → List Line
so_far wide streams acts = lines.Header wide ∷ body (record { streams = streams; acts = acts })

-- the builder keeps what these lines say
pub record IsBuilt (p : BundleBuilder) (ls : List Line) : Type 0 where
  pub lines : ls ≡ so_far p.wide p.draft p.acts
  pub count : p.lines ≡ length ls
  pub pids_are : pids ls ≡ pids_of p.draft
  pub last_is : p.last ≡ last_of (pids ls)
  pub processes_are : p.processes ≡ length (pids ls)
  pub events_are : p.events ≡ count_by is_event ls
  pub acts_are : acts_len p.acts ≡ count_by is_act ls
  pub begun_is : is_some p.acts ≡ has_acts ls
  pub remote_is : p.remote ≡ list_any is_remote ls
  pub wide_is : p.wide ≡ list_any is_wide_header ls
  pub rising : IsRising (pids_of p.draft)

-- the next line has no fault, and a bundle holds it
pub record NeedsRoom (limits : Limits) (ls : List Line) (said : Option Line) : Type 0 where
  pub line : Line
  pub said_is : said ≡ Some line
  pub good : line_fault limits ls (Some line) ≡ None
  pub kept : is_kept_line line ≡ true

-- the next line is taken, or has a fault, or there was no room for it
abbrev pub Takes : Limits → List Line → Line → BundleBuilder → Step → Type 0
Takes limits ls l new Goes = (line_fault limits ls (Some l) ≡ None) × IsBuilt new (ls ++ l ∷ [])
Takes limits ls l new (Stops f) = line_fault limits ls (Some l) ≡ Some f
Takes limits ls l new Halts = NeedsRoom limits ls (Some l)

-- the step after the next bytes, which have a fault if they aren't a line
abbrev pub TakesLine : Limits → List Line → Option Line → BundleBuilder → Step → Type 0
TakesLine limits ls (Some l) new step = Takes limits ls l new step
TakesLine limits ls None new Goes = ⊥
TakesLine limits ls None new (Stops f) = line_fault limits ls None ≡ Some f
TakesLine limits ls None new Halts = ⊥
