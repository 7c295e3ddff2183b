-- The result of reading, told from all the bytes.
use Rattle.std.specs.Prelude.{◌≡◌, ℕ, List, Some, Result, Ok, Err}
use Rattle.st_text.specs.declared.bundle.Bundle.{Bundle}
use Rattle.st_text.specs.declared.fault.ReadFault.{ReadFault}
use Rattle.st_text.specs.declared.fault.ReadFault.TheVariants as faults
use Rattle.st_text.specs.declared.limits.Limits.{Limits}
use Rattle.st_text.specs.Text.{Contents, IsText, IsWithin}
use Rattle.st_text.specs.Contents.{contents}
use Rattle.st_text.specs.Fault.{fault_within}

-- the bytes are the bundle's text, within these limits
pub record Reads (limits : Limits) (bytes : List ℕ) (c : Contents) : Type 0 where
  pub text : IsText bytes c
  pub within : IsWithin limits c

-- the result is the bundle whose text the bytes are, or the fault of the bytes
abbrev pub IsReadResult : Limits → List ℕ → Result Bundle ReadFault → Type 0
IsReadResult limits bytes (Ok b) = Reads limits bytes (contents b)
IsReadResult limits bytes (Err f) = fault_within limits bytes ≡ Some f

-- the result above, or Memory; that too many bytes are TooLarge even then is said by `Ends` of
-- Reads
abbrev pub IsReadResultOrMemory : Limits → List ℕ → Result Bundle ReadFault → Type 0
IsReadResultOrMemory limits bytes (Ok b) = Reads limits bytes (contents b)
IsReadResultOrMemory limits bytes (Err faults.Memory) = Unit {0}
IsReadResultOrMemory limits bytes (Err f) = fault_within limits bytes ≡ Some f
