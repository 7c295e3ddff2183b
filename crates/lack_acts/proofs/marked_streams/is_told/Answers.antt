-- The marks of a process are those at its place; a process that isn't listed tells nothing.
use Rattle.std.proofs.Common.{get_or, [], Option, false, sym, ◌∙◌, ap, arith}
use Rattle.std.specs.Option.{option_map_or}
use Rattle.std.proofs.lemmas.Bool.{le-ltb}
use Rattle.std.proofs.lemmas.Option.{slice_get_past}
use Rattle.st_core.specs.declared.types.Event.{Event}
use Rattle.st_core.specs.Streams.{events_of}
use Rattle.st_pair.proofs.ForCallers.{at_get_or, blank}
use Rattle.lack_acts.proofs.Telling.{read_missing, read_told}
use Rattle.lack_acts.proofs.marked_streams.is_told.Goals as goal

pub returns-in_default : goal.returns-in_default
returns-in_default c =
    sym (read_missing c.args.streams.now c.args.marks.now c.args.pid c.args.index
    c.in_default.ensures.missing)

pub returns-then-index-len : goal.returns-then-index-len
returns-then-index-len c =
    let streams = c.args.streams.now in
    let es = events_of streams c.args.pid in
    let k = c.in-Some.place in
    let i = c.args.index in
    let own = get_or c.args.marks.now k [] in
    let below = c.if-index-len.true in
    let long = c.len.ensures in
    let at = at_get_or es i blank (omega (arith, below, long)) in
    c.is_marked.ensures ∙ ap (λ bs. get_or bs i false) c.marks_at.ensures
    ∙ sym (read_told streams c.args.marks.now c.args.pid k i
    c.pids-pids.ensures.streams.draft.rising c.in-Some.ensures.found
    ∙ ap (λ (o : Option Event). option_map_or (λ (e : Event). get_or own i false) o false) at)

pub returns-else-index-len : goal.returns-else-index-len
returns-else-index-len c =
    let streams = c.args.streams.now in
    let es = events_of streams c.args.pid in
    let k = c.in-Some.place in
    let i = c.args.index in
    let own = get_or c.args.marks.now k [] in
    let past = c.if-index-len.false in
    let long = c.len.ensures in
    le-ltb i c.len.result past
    ∙ sym (read_told streams c.args.marks.now c.args.pid k i
    c.pids-pids.ensures.streams.draft.rising c.in-Some.ensures.found
    ∙ ap (λ (o : Option Event). option_map_or (λ (e : Event). get_or own i false) o false)
    (slice_get_past es i (omega (arith, past, long))))
