-- All processes were added, so they tell the streams with the unlisted processes.
use Rattle.std.proofs.Common.{◌∙◌, ap}
use Rattle.st_core.specs.Run.{pids_of}
use Rattle.st_plan.specs.Marks.{told_streams}
use Rattle.lack_laws.specs.Silent.{with_silent}
use Rattle.lack_needs.specs.Completions.{wholes_with}
use Rattle.lack_search.specs.Assembly.{streams_of_pids}
use Rattle.lack_search.proofs.Telling.{reported_with_silent}
use Rattle.lack_search.proofs.assembly.assemble.Goals as goal

pub returns : goal.returns
returns c =
    let streams = c.args.streams.now in
    let told = c.in_ok-told.told.items in
    ap (λ xs. told_streams (wholes_with xs told))
    (c.in-Ok.ensures.ok ∙ c.into_draft-draft.ensures)
    ∙ c.in_ok-told.ensures
    ∙ ap (streams_of_pids streams)
    (c.deref-3.ensures.value ∙ c.in_ok-pids.ensures
    ∙ ap (λ qs. pids_of (with_silent streams qs)) c.deref-2.ensures.value)
    ∙ reported_with_silent streams c.args.parts.unlisted.items c.pids-pids.ensures.streams
