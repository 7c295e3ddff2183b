-- The marks of a process are those at its place.
use Rattle.std.proofs.Common.{ℕ, Bool, List, [], Option, option_map, slice_get, length, get_or, sym}
use Rattle.std.proofs.Common.{◌∙◌, ap}
use Rattle.st_core.specs.Streams.{events_of}
use Rattle.st_plan.specs.Marks.{Marked}
use Rattle.lack_laws.specs.Needs.{marked_of}
use Rattle.lack_needs.specs.Completions.{marked_with, Completed}
use Rattle.lack_needs.proofs.Kept.{marked_kept, marked_missing}
use Rattle.lack_needs.proofs.completion.Completion.told.Goals as goal

abbrev told_at : List Marked → ℕ → Option Bool
told_at ms i = option_map (λ (m : Marked). m.told) (slice_get ms i)

pub returns-in-None : goal.returns-in-None
returns-in-None c =
    ap (λ (ms : List Marked). option_map (λ (m : Marked). m.told) (slice_get ms c.args.index))
    (sym (marked_missing c.self.inside.streams c.self.inside.told.items c.args.pid
    c.in-None.ensures.missing)
    ∙ ap (λ (x : Completed). marked_of x.wholes c.args.pid) c.self.view_is)

pub returns-in-Some : goal.returns-in-Some
returns-in-Some c =
    let streams = c.self.inside.streams in
    let lists = c.self.inside.told.items in
    let es = events_of streams c.args.pid in
    let marks = c.marks_at.ensures ∙ ap (λ ls. get_or ls c.in-Some.place [])
    c.deref.ensures.value in
    c.mark_at.ensures es (ap length (sym c.events.ensures.value))
    ∙ ap (λ (ms : List Bool). told_at (marked_with es ms) c.args.index) marks
    ∙ ap (λ (ms : List Marked). told_at ms c.args.index)
    (sym (marked_kept streams lists c.in-Some.place c.args.pid c.events.ensures.streams.draft.rising
    c.in-Some.ensures.found)
    ∙ ap (λ (x : Completed). marked_of x.wholes c.args.pid) c.self.view_is)
