-- The opened stream is empty and last, and is then filled.
use Rattle.std.proofs.Common.{◌∙◌, ap, []}
use Rattle.st_core.specs.Streams.{lists}
use Rattle.st_runtime.proofs.Collecting.{lists_last}
use Rattle.st_runtime.proofs.join.collect.add_stream.Goals as goal

pub fill-requires-clause-listed : goal.fill-requires-clause-listed
fill-requires-clause-listed c = ap (λ d. lists d c.args.pid) c.in-Ok.ensures.ok
    ∙ lists_last c.args.draft.now c.args.pid []
