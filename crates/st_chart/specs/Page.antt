-- Writing on a page, whose bytes wait for the writer until they fill a piece.
use Rattle.std.specs.Prelude.{ℕ, List, Result}
use Rattle.st_core.specs.declared.device.sink.ByteSink.{Ghosts as SinkOf}
use Rattle.st_text.specs.Writing.{WritesOn}
use Rattle.st_chart.specs.declared.page.Page.{Page}

-- the bytes that waited and then the text went to the writer, but for the bytes that wait on the
-- page afterwards
abbrev pub Draws : {W T E : Type 0} → SinkOf W → List ℕ → W → W → Page → Page → Result T E → Type 0
Draws device text old new before after r =
    WritesOn device.puts device.failed text old new before.waits.items after.waits.items r
