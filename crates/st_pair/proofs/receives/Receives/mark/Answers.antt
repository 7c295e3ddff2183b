-- The event with the key's count is at the index that its link says, in the list at its process's
-- place.
use Rattle.std.proofs.Common.{◌∙◌, sym}
use Rattle.st_pair.proofs.Marks.{mark_read, unlisted_mark}
use Rattle.st_pair.proofs.receives.Receives.mark.Goals as goal

pub returns-in_default-place_of-clause-none : goal.returns-in_default-place_of-clause-none
returns-in_default-place_of-clause-none c =
    unlisted_mark c.args.streams.now c.args.self.now.shown.items c.args.key
    c.in_default-place_of.ensures.missing

pub returns-in_default-mark_at-clause-none : goal.returns-in_default-mark_at-clause-none
returns-in_default-mark_at-clause-none c =
    mark_read c.args.streams.now c.args.self.now.shown.items c.args.key c.in-Some-place_of.process
    c.in-Some.index
    c.requires.rising c.in-Some-place_of.ensures.found (c.requires.sent ∙ c.in-Some.is)
    ∙ sym (rw c.deref.ensures.value at c.in_default-mark_at.ensures)
