-- The bytes that were put, and then those that are left, are all the bytes.
use Rattle.std.proofs.Common.{length}
use Rattle.st_text.proofs.Puts.{HasPut}
use Rattle.st_text.proofs.sink.put_all.Given as goal

abbrev pub invariant-loop-rest : goal.invariant-loop-rest
invariant-loop-rest g l =
    HasPut g.S.ByteSink.puts g.S.ByteSink.failed l.bytes l.rest l.initial.sink l.sink

abbrev pub decreases-loop-rest : goal.decreases-loop-rest
decreases-loop-rest g l = length l.rest
