-- The streams that logs tell of can be collected, as can the streams that any acts show by rising
-- pid.
use Rattle.std.proofs.Common.{ℕ, List, map, sym, subst}
use Rattle.st_core.specs.Pid.{IsRising}
use Rattle.st_core.specs.Streams.{IsStreams}
use Rattle.st_core.proofs.ForCallers.{shown_are_streams}
use Rattle.st_log.specs.declared.entry.Entry.{Entry}
use Rattle.st_runtime.specs.Pcb.{Control}
use Rattle.st_runtime.specs.Pieces.{pids_in}
use Rattle.st_runtime.specs.Joined.{streams_of, IsOneRun}
use Rattle.st_runtime.proofs.Runs.{pids_streams}

pub are_streams : (top : ℕ) (xs : List Control) (es : List Entry) → IsRising (pids_in xs)
    → IsOneRun top xs es
    → IsStreams (streams_of xs)
are_streams top xs es rising one = shown_are_streams top (streams_of xs) (map (λ e. e.act) es)
    (subst IsRising (sym (pids_streams xs)) rising) one.shows
