-- A list of events that all name listed pids can be left out of the search.
use Rattle.std.proofs.Common.{sym, ◌∙◌, ◌<◌, length, arith, add-one}
use Rattle.st_core.specs.Streams.{names_among}
use Rattle.st_core.proofs.Collections.{first_failing-drop}
use Rattle.st_core.proofs.streams.first_failing.Goals as goal

pub loop-place-preserved : goal.loop-place-preserved
loop-place-preserved c =
    let none = sym (rw c.as_slice.ensures at c.unlisted_index.ensures) ∙ c.in_default.is in
    let within : c.loop-place.place < length c.args.lists.now = omega arith in
    rw add-one
    (c.loop-place.invariant
    ∙ first_failing-drop (names_among c.args.pids.now) _ _ _ _ c.requires.even within
    c.index-lists-place.is none)
