-- The index so far is one of the messages passed, and has room for those left.
use Rattle.std.proofs.Common.{◌+◌, ◌≤◌, length, map}
use Rattle.st_arena.specs.Arena.{list_at}
use Rattle.st_mail.specs.Index.{IsIndexOf, room}
use Rattle.st_mail.proofs.finder.index_over.Given as goal

abbrev pub invariant-loop-message : goal.invariant-loop-message
invariant-loop-message l =
    IsIndexOf l.index (map (λ message. message.now) l.yielded)
    × (length (list_at l.lists l.list) ≤ length l.yielded + room l.index)
