-- A feed after all the bytes that it was fed, however they were cut into pieces.
use Rattle.std.specs.Prelude.{◌≡◌, ℕ, ◌<◌, ◌≤◌, Bool, true, false, List, length, Option, Some, None}
use Rattle.std.specs.Prelude.{Result, Ok, Err}
use Rattle.st_text.specs.declared.fault.ReadFault.{ReadFault}
use Rattle.st_text.specs.declared.fault.ReadFault.TheVariants as faults
use Rattle.st_text.specs.declared.cutter.Cutter.{Cutter}
use Rattle.st_text.specs.declared.feed.Feed.{Feed}
use Rattle.st_text.specs.declared.limits.Limits.{Limits}
use Rattle.st_text.specs.Parts.CutterState.{HasTaken}

-- the refusal, given whether there were too many bytes and whether memory ran out
abbrev pub refusal_by : Bool → Bool → Option ReadFault
refusal_by true out = Some faults.TooLarge
refusal_by false true = Some faults.Memory
refusal_by false false = None

-- the fault that each call returns from now on, if there is one
abbrev pub fed_refusal : Feed → Option ReadFault
fed_refusal f = refusal_by f.large f.cutter.out

-- the bytes are counted and within the limit, and the cutter has taken them
pub record AreBytesCounted (limits : Limits) (bytes : List ℕ) (count : ℕ)
    (cutter : Cutter) : Type 0 where
  pub count_is : count ≡ length bytes
  pub small : length bytes ≤ limits.bytes
  pub holds : HasTaken limits bytes cutter

-- nothing is known of the cutter if there were too many bytes, and nothing at all if memory ran
-- out
abbrev pub FedAs : Limits → Bool → Bool → List ℕ → ℕ → Cutter → Type 0
FedAs limits true out bytes count cutter = limits.bytes < length bytes
FedAs limits false true bytes count cutter = Unit {0}
FedAs limits false false bytes count cutter = AreBytesCounted limits bytes count cutter

-- the feed was fed these bytes, within its own limits
abbrev pub WasFed : List ℕ → Feed → Type 0
WasFed bytes f = FedAs f.limits f.large f.cutter.out bytes f.count f.cutter

-- the result of taking a piece, given the feed's refusal after it
abbrev pub answer_of : Option ReadFault → Result (Unit {0}) ReadFault
answer_of None = Ok tt
answer_of (Some f) = Err f
