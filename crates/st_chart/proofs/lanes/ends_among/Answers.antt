-- At the end nothing is left, and both lists rise.
use Rattle.std.proofs.Common.{◌≡◌, ◌++◌, [], sym, subst, ◌∙◌, filter}
use Rattle.std.specs.Map.Iter.{deref}
use Rattle.std.proofs.lemmas.Map.Iter.{rest_all}
use Rattle.std.proofs.lemmas.List.{append-nil}
use Rattle.st_core.specs.Streams.{is_among}
use Rattle.st_chart.proofs.Common.{listed_ends}
use Rattle.st_chart.proofs.lanes.ends_among.Goals as goal

pub returns : goal.returns
returns c =
    let ends = c.args.ends.now in
    let pids = c.args.pids.now in
    let noted = c.loop-end.noted.items in
    let left : c.loop-end.end-iterator ≡ [] =
    rest_all deref c.loop-end.end-iterator _ c.next.result c.in-None.is c.next.ensures.steps in
    let whole : noted ++ [] ≡ filter (is_among pids) ends.keys =
    subst (λ rest. noted ++ filter (is_among pids) rest ≡ filter (is_among pids) ends.keys) left
    c.loop-end.invariant in
    sym (append-nil noted) ∙ whole
    ∙ listed_ends ends pids c.into_iter-end-iterator.ensures.into_iter_gives.4 c.requires
