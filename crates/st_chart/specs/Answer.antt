-- How the writing of a chart ends.
use Rattle.std.specs.Prelude.{◌≡◌, ℕ, Bool, List, Result, Ok, Err}
use Rattle.st_text.specs.Writing.{Writes, WritesPart}
use Rattle.st_chart.specs.declared.fault.ChartFault.{ChartFault}
use Rattle.st_chart.specs.declared.fault.ChartFault.TheVariants as fault

-- a chart is written whole; or the device fails after a prefix of it; or the device isn't touched,
-- since no item has the label or memory runs out
abbrev pub WritesChart : {S T : Type 0} → (S → List ℕ → S → Type 0) → (S → Bool) → List ℕ → S → S
    → Result T ChartFault → Type 0
WritesChart puts failed text old new (Ok v) = Writes puts failed text old new
WritesChart puts failed text old new (Err fault.Device) = WritesPart puts failed text old new
WritesChart puts failed text old new (Err fault.NoLabel) = new ≡ old
WritesChart puts failed text old new (Err fault.Memory) = new ≡ old
