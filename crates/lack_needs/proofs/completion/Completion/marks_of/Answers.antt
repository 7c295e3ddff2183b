-- The marks of a process are those at its place; a process that isn't listed has no events.
use Rattle.std.proofs.Common.{◌≡◌, List, [], get_or, map, sym, ◌∙◌, ap}
use Rattle.st_core.specs.Streams.{events_of}
use Rattle.st_plan.specs.Marks.{all_streams, Marked}
use Rattle.lack_laws.specs.Needs.{marked_of}
use Rattle.lack_laws.proofs.ForCallers.{events_all}
use Rattle.lack_needs.specs.Completions.{marked_with, Completed}
use Rattle.lack_needs.proofs.Kept.{all_kept, marked_kept, marked_missing}
use Rattle.lack_needs.proofs.completion.Completion.marks_of.Goals as goal

pub returns-in-None : goal.returns-in-None
returns-in-None c =
    let p = c.args.pid in
    let wholes = c.args.self.now.wholes in
    let none : marked_of wholes p ≡ [] =
    sym (ap (λ (x : Completed). marked_of x.wholes p) c.self.view_is)
    ∙ marked_missing c.self.inside.streams c.self.inside.told.items p c.in-None.ensures.missing in
    ap (λ es. marked_with es [])
    (events_all wholes p ∙ ap (λ (ms : List Marked). map (λ (m : Marked). m.event) ms) none)
    ∙ sym none

pub returns-in-Some : goal.returns-in-Some
returns-in-Some c =
    let streams = c.self.inside.streams in
    let lists = c.self.inside.told.items in
    let p = c.args.pid in
    let all = ap (λ (x : Completed). all_streams x.wholes) (sym c.self.view_is)
    ∙ all_kept streams lists in
    let marks = c.marks_at.ensures ∙ ap (λ ls. get_or ls c.in-Some.place [])
    c.deref.ensures.value in
    ap (λ ss. marked_with (events_of ss p) c.marks_at.result.now) all
    ∙ ap (marked_with (events_of streams p)) marks
    ∙ sym (marked_kept streams lists c.in-Some.place p c.pids-pids.ensures.streams.draft.rising
    c.in-Some.ensures.found)
    ∙ ap (λ (x : Completed). marked_of x.wholes p) c.self.view_is
