-- The reader is on its way, and fewer bytes are left to ask for.
use Rattle.st_text.proofs.ReaderSteps.{IsReading}
use Rattle.st_text.proofs.reader.read_within.Given as goal

abbrev pub invariant-loop-feed : goal.invariant-loop-feed
invariant-loop-feed g l =
    IsReading l.fn.limits g.S.ByteSource.gives g.S.ByteSource.failed l.initial.source l.source
    l.feed l.left l.buffer

abbrev pub decreases-loop-feed : goal.decreases-loop-feed
decreases-loop-feed g l = l.left
