-- A process that isn't listed has no events, and a listed one has its list at its place.
use Rattle.std.proofs.Common.{◌<◌, Some, ◌∙◌, ap, sym, subst}
use Rattle.st_core.specs.Run.{pids_of}
use Rattle.st_core.specs.Streams.{events_of}
use Rattle.st_core.proofs.ForCallers.{place_within}
use Rattle.node_streams.specs.Messages.{nth, tells}
use Rattle.node_streams.specs.Tables.{AreByContent, ends_from}
use Rattle.st_pair.proofs.ForCallers.{missing_events, at_get_or}
use Rattle.node_streams.proofs.SortedEnds.{nth_event}
use Rattle.node_streams.proofs.ends.place.Goals as goal

pub returns-in-None : goal.returns-in-None
returns-in-None c = λ kind are.
    ap (nth (tells kind c.args.content) c.args.number)
    (sym (missing_events c.args.streams.now c.args.pid c.in-None.ensures.missing))

pub returns-in-Some : goal.returns-in-Some
returns-in-Some c = λ kind are.
    let streams = c.args.streams.now in
    let es = events_of streams c.args.pid in
    let place = c.in-Some.place in
    let found = c.in-Some.ensures.found in
    let list = c.index-ends-place.result in
    let within = subst (λ n. place < n) (sym are.each)
    (place_within (pids_of streams) place c.args.pid found) in
    let got = at_get_or c.args.ends.now place list within
    ∙ ap (λ v. Some v) (sym c.index-ends-place.is) in
    c.nth_end.ensures (ends_from kind 0 es)
    (subst (AreByContent (ends_from kind 0 es)) (sym c.as_slice.ensures)
    (are.sorted place c.args.pid list found got))
    ∙ nth_event kind c.args.content c.args.number es
