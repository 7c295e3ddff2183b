-- A chart is written if an item has the label, a line says if none has it, and a reason of pairing
-- is reported.
use Rattle.std.proofs.Common.{◌≡◌, ◌≢◌, ℕ, Bool, true, false, List, refl, subst}
use Rattle.std.specs.Prelude.{◌↔◌, Some, Result, Err}
use Rattle.st_core.specs.declared.types.Label.{Label}
use Rattle.st_core.specs.declared.device.sink.ByteSink.{Ghosts as SinkOf}
use Rattle.st_core.specs.Run.{Stream}
use Rattle.st_pair.specs.declared.answer.PairFault.{PairFault}
use Rattle.st_pair.specs.declared.answer.PairFault.TheVariants as fault
use Rattle.st_pair.specs.Pairing.{IsPairFault}
use Rattle.st_audit.specs.declared.finding.Finding.{Finding}
use Rattle.st_audit.specs.Findings.{unfit_by}
use Rattle.st_chart.specs.declared.fault.ChartFault.{ChartFault}
use Rattle.st_chart.specs.declared.fault.ChartFault.TheVariants as chart_fault
use Rattle.st_commands.specs.Output.{Output}
use Rattle.st_commands.specs.Audited.{report_output}
use Rattle.st_commands.specs.Command.{Delivers, call}
use Rattle.st_commands.specs.Parts.{ChartsTo, OfReason}

-- an item has the label if the chart didn't fail because none has it
pub labelled : {T : Type 0} (r : Result T ChartFault) (some : Bool) → r ≢ Err chart_fault.NoLabel
    → (r ≡ Err chart_fault.NoLabel ↔ some ≡ false) → some ≡ true
labelled r true other iff = refl
labelled r false other iff = absurd (other (iff.1 refl))

-- an output that was delivered after the chart was delivered by the whole call, if the chart left
-- the writer as it was
pub from_there : {W : Type 0} (device : SinkOf W) (old there new : W) (out : Output) (status : ℕ)
    → there ≡ old
    → Delivers (call device there new) out status → Delivers (call device old new) out status
from_there device old there new out status same d =
    subst (λ w. Delivers (call device w new) out status) same d

-- a reason that isn't Memory is reported
pub unpaired : (streams : List Stream) (label : Label) (f : PairFault) (found : Finding)
    → IsPairFault streams f
    → unfit_by f ≡ Some found → ChartsTo streams label (report_output streams found)
unpaired streams label fault.Memory found is by = absurd (cc)
unpaired streams label (fault.PrevNotBefore p i) found is by =
    OfReason (fault.PrevNotBefore p i) found is by
unpaired streams label (fault.NotRising p i j) found is by =
    OfReason (fault.NotRising p i j) found is by
unpaired streams label (fault.Repeated p i q j) found is by =
    OfReason (fault.Repeated p i q j) found is by
unpaired streams label (fault.Mismatch p i q j) found is by =
    OfReason (fault.Mismatch p i q j) found is by
