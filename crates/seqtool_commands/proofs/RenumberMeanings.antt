-- Only renumbered streams have status 0, and only a fault of the bytes has 2: so an output with
-- the status is the rest of that kind.
use Rattle.std.proofs.Common.{◌≡◌, ℕ, ◌≤◌, List, refl, arith}
use Rattle.st_core.specs.Pid.{IsRising}
use Rattle.st_core.specs.Run.{Stream, pids_of}
use Rattle.lack_laws.specs.Completed.{IsShownInOneTrace}
use Rattle.lack_laws.specs.Renumbering.{count_of_rank, counts_of, renumbered_streams, with_counts}
use Rattle.lack_laws.specs.Renumbering.{KeepsOrder}
use Rattle.st_commands.specs.Output.{Output}
use Rattle.st_commands.specs.Checked.{top}
use Rattle.st_commands.proofs.ForCallers.{fault_status_high}
use Rattle.seqtool_commands.specs.Renumber.{Faulty, IsRenumbered, MeansRefused, MeansRenumbered}
use Rattle.seqtool_commands.specs.Renumber.{Ranked}

-- the counts can be put back
abbrev pub ArePutBack : Type 0
ArePutBack = (streams : List Stream) → KeepsOrder (count_of_rank (counts_of streams))
    × (with_counts (count_of_rank (counts_of streams)) (renumbered_streams streams) ≡ streams)

-- acts show streams if acts show them renumbered
abbrev pub AreShownIfRenumbered : Type 0
AreShownIfRenumbered = (most_of rank_top : ℕ) (streams : List Stream) → IsRising (pids_of streams)
    → count_of_rank (counts_of streams) rank_top ≤ most_of
    → IsShownInOneTrace rank_top (renumbered_streams streams) → IsShownInOneTrace most_of streams

pub renumbered_means : ArePutBack → AreShownIfRenumbered → (bytes : List ℕ) (out : Output)
    → IsRenumbered bytes out → out.status ≡ 0 → MeansRenumbered bytes out
renumbered_means put_back shown_if bytes out (Ranked b streams given spelled) e =
    let back = put_back streams in
    record {
      streams = streams;
      given = given;
      written = renumbered_streams streams;
      spelled = spelled;
      ranked = refl;
      order = back.0;
      back = back.1;
      shown = λ most within shown.
          shown_if top most streams spelled.text.bundle.streams.draft.rising within shown;
      text = refl;
    }
renumbered_means put_back shown_if bytes out (Faulty b f is) e =
    let high = fault_status_high f in absurd (omega arith)

pub refused_means : (bytes : List ℕ) (out : Output) → IsRenumbered bytes out → out.status ≡ 2
    → MeansRefused bytes out
refused_means bytes out (Ranked b streams given spelled) e = absurd (omega arith)
refused_means bytes out (Faulty b f is) e = record { fault = f; faulty = is; text = refl }
