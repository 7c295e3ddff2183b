-- An event has the mark at its index, and is untold past the end of the marks.
use Rattle.std.proofs.Common.{◌<◌, length, get_or, option_map, Some, false, sym, ◌∙◌, ap, arith}
use Rattle.st_core.specs.declared.types.Event.{Event}
use Rattle.st_pair.proofs.ForCallers.{at_get_or, blank}
use Rattle.std.proofs.lemmas.Option.{slice_get_past}
use Rattle.lack_needs.proofs.Kept.{mark_read}
use Rattle.lack_needs.proofs.completion.mark_at.Goals as goal

pub returns-then-index-event_count : goal.returns-then-index-event_count
returns-then-index-event_count c = λ es len. sym (mark_read es c.args.marks.now c.args.index
    ∙ ap (option_map (λ (e : Event). get_or c.args.marks.now c.args.index false))
    (slice_get_past es c.args.index (let past = c.if-index-event_count.true in omega arith)))

pub returns : goal.returns
returns c = λ es len.
    let within : c.args.index < length es = let below = c.if-index-event_count.false in
    omega arith in
    ap Some c.is_marked.ensures
    ∙ sym (mark_read es c.args.marks.now c.args.index
    ∙ ap (option_map (λ (e : Event). get_or c.args.marks.now c.args.index false))
    (at_get_or es c.args.index blank within))
