-- Laws of the text form, each the contract of a function of `laws`.
use Rattle.std.specs.Prelude.{◌≡◌, ℕ, ◌+◌, true, false, List, [], ◌∷◌, ◌++◌, length, map, Option}
use Rattle.std.specs.Prelude.{Some, None, Result, Ok, Err}
use Rattle.std.specs.List.{list_any}
use Rattle.st_core.specs.declared.types.Pid.{Pid}
use Rattle.st_text.specs.declared.line.Line.{Line}
use Rattle.st_text.specs.declared.bundle.Bundle.{Bundle}
use Rattle.st_text.specs.declared.fault.ReadFault.{ReadFault}
use Rattle.st_text.specs.declared.fault.ReadFault.TheVariants as faults
use Rattle.st_text.specs.declared.limits.Limits.{Limits}
use Rattle.st_text.specs.Spelling.{line}
use Rattle.st_text.specs.Range.{Fits}
use Rattle.st_text.specs.Parsing.{line_of}
use Rattle.st_text.specs.Text.{Contents, spelling, IsBundle, IsText, IsWithin}
use Rattle.st_text.specs.Contents.{contents}
use Rattle.st_text.specs.Fault.{line_fault, first_fault, is_unknown, unknown_from, fault_within}
use Rattle.st_text.specs.Answer.{Reads, IsReadResultOrMemory}

-- bytes that are read as a line are its spelling, and its values are in range
abbrev pub ReadIsSpelled : Type 0
ReadIsSpelled = (bytes : List ℕ) (l : Line) → line_of bytes ≡ Some l → (bytes ≡ line l) × Fits l

-- the spelling of a line whose values are in range is read as that line
abbrev pub SpelledIsRead : Type 0
SpelledIsRead = (l : Line) → Fits l → line_of (line l) ≡ Some l

-- bytes are the text of at most one bundle
abbrev pub TextIsOne : Type 0
TextIsOne = (bytes : List ℕ) (c d : Contents) → IsText bytes c → IsText bytes d → c ≡ d

-- whatever the limits are, the text of a bundle within them has no fault
abbrev pub TextHasNoFault : Type 0
TextHasNoFault = (limits : Limits) (bytes : List ℕ) (c : Contents) → Reads limits bytes c
    → fault_within limits bytes ≡ None

-- whatever the limits are, bytes without a fault are the text of a bundle within them
abbrev pub NoFaultIsText : Type 0
NoFaultIsText = (limits : Limits) (bytes : List ℕ) → fault_within limits bytes ≡ None
    → (c : Contents) × Reads limits bytes c

-- the first lines are good, and the line after them has the fault
pub record FailsFirst (limits : Limits) (rs : List (Option Line)) (f : ReadFault) : Type 0 where
  pub before : List Line
  pub here : Option Line
  pub after : List (Option Line)
  pub lines : rs ≡ map Some before ++ here ∷ after
  pub good : first_fault limits [] (map Some before) ≡ None
  pub fault : line_fault limits before here ≡ Some f

-- the fault of lines is the fault of the first faulty line
abbrev pub FaultIsFirst : Type 0
FaultIsFirst = (limits : Limits) (rs : List (Option Line)) (f : ReadFault)
    → first_fault limits [] rs ≡ Some f
    → FailsFirst limits rs f

-- the fault names the first of these lines with an unlisted pid, if they are counted from n
pub record IsFirstUnknown (ps : List Pid) (n : ℕ) (ls : List Line) (f : ReadFault) : Type 0 where
  pub before : List Line
  pub here : Line
  pub after : List Line
  pub lines : ls ≡ before ++ here ∷ after
  pub known : list_any (is_unknown ps) before ≡ false
  pub unknown : is_unknown ps here ≡ true
  pub fault : f ≡ faults.Unknown (n + length before)

-- `Unknown` has the number of the first line that names an unlisted pid
abbrev pub UnknownIsFirst : Type 0
UnknownIsFirst = (ps : List Pid) (ls : List Line) (f : ReadFault) → unknown_from ps 1 ls ≡ Some f
    → IsFirstUnknown ps 1 ls f

-- the result is this bundle, or memory ran out
abbrev pub IsReadBack : Contents → Result Bundle ReadFault → Type 0
IsReadBack c (Ok b) = contents b ≡ c
IsReadBack c (Err faults.Memory) = Unit {0}
IsReadBack c (Err f) = ⊥

-- reading the text of a bundle within the limits returns that bundle, or memory ran out
abbrev pub WrittenIsRead : Type 0
WrittenIsRead = (limits : Limits) (c : Contents) (r : Result Bundle ReadFault) → IsBundle c
    → IsWithin limits c
    → IsReadResultOrMemory limits (spelling c) r → IsReadBack c r
