-- If the words ask for no command nothing was read, and the usage line or Memory is owed.
use Rattle.std.proofs.Common.{ℕ, ◌≤◌, List, refl, arith}
use Rattle.clap.specs.Words.{Text}
use Rattle.st_core.specs.declared.device.source.ByteSource.{Ghosts as SourceOf}
use Rattle.st_commands.specs.declared.words.Refusal.{Refusal}
use Rattle.st_commands.specs.declared.words.Refusal.TheVariants as refusals
use Rattle.st_commands.specs.Words.{IsRefusal}
use Rattle.st_text.specs.declared.limits.Limits.{Limits}
use Rattle.st_commands.specs.Command.{OwesFor, ForUsage, ForNoMemory, WriterCall, Delivers, Whole}
use Rattle.st_commands.specs.Command.{Part, call}
use Rattle.st_commands.specs.Output.{refusal_output}

pub owes_refusal : {R : Type 0} (limits : Limits) (device : SourceOf R) (reader : R)
    (words : List Text) (r : Refusal)
    → IsRefusal words r → OwesFor limits (call device reader reader) words (refusal_output r)
owes_refusal limits device reader words refusals.Memory h = ForNoMemory refl
owes_refusal limits device reader words refusals.Usage h = ForUsage h refl

-- the status for refused words is neither that of a yes nor that of a no
pub refusal_high : {W : Type 0} (writer : WriterCall W) (r : Refusal) (status : ℕ)
    → Delivers writer (refusal_output r) status → 2 ≤ status
refusal_high writer refusals.Memory status (Whole w) = omega arith
refusal_high writer refusals.Memory status (Part w) = omega arith
refusal_high writer refusals.Usage status (Whole w) = omega arith
refusal_high writer refusals.Usage status (Part w) = omega arith
