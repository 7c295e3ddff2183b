-- All events but those of the streams are untold.
use Rattle.std.proofs.Common.{◌∙◌, ap, arith}
use Rattle.st_core.specs.Streams.{total_of}
use Rattle.lack_needs.specs.Completions.{wholes_with}
use Rattle.lack_laws.proofs.ForCallers.{silent_total}
use Rattle.lack_needs.proofs.ToldEvents.{added_count}
use Rattle.lack_needs.proofs.Kept.{all_kept}
use Rattle.lack_needs.proofs.completion.completion_of.Goals as goal

pub invariant_of-result : goal.invariant_of-result
invariant_of-result c =
    let count = added_count (wholes_with c.args.all c.args.lists.items) in
    let all = ap total_of (all_kept c.args.all c.args.lists.items) in
    let told = ap total_of c.requires
    ∙ silent_total c.args.streams.now c.args.unlisted.items in
    let more = c.total.ensures in
    omega (arith, count, all, told, more, c.total-2.ensures, c.saturating_sub-added.ensures)
