-- A run that reports everything has plain streams, so their finding is a certificate.
use Rattle.std.proofs.Common.{◌⊎◌, inl, inr, ℕ, List}
use Rattle.st_core.specs.Pid.{IsRising}
use Rattle.st_core.specs.Run.{Stream, pids_of}
use Rattle.st_plan.specs.Plain.{IsPlain}
use Rattle.st_plan.specs.Full.{IsFullyShown}
use Rattle.st_plan.proofs.ForCallers.{full_plain}

-- streams are plain too if a run shows them that reports everything
pub certain_plain : (top : ℕ) (streams : List Stream) → IsRising (pids_of streams)
    → IsPlain top streams ⊎ IsFullyShown top streams → IsPlain top streams
certain_plain top streams rising (inl plain) = plain
certain_plain top streams rising (inr full) =
    full_plain top streams full.acts full.shows rising full.one_trace full.whole
