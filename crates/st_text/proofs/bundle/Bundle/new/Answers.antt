-- If no act is unlisted, each act is listed.
use Rattle.std.proofs.Common.{sym}
use Rattle.st_core.specs.Run.{pids_of}
use Rattle.st_text.specs.Text.{acts_or_none, is_listed}
use Rattle.st_text.proofs.ListedPids.{none_unlisted}
use Rattle.st_text.proofs.bundle.Bundle.new.Goals as goal

pub invariant_of-result : goal.invariant_of-result
invariant_of-result c =
    record {
      listed = none_unlisted (is_listed (pids_of c.args.streams)) (acts_or_none c.args.acts)
          (sym c.in-None.ensures);
    }
