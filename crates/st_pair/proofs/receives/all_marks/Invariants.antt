-- So far there are the marks of the streams that were taken, of which none has a receive.
use Rattle.std.proofs.Common.{◌≡◌, map, take}
use Rattle.st_pair.specs.Tables.{no_marks}
use Rattle.st_pair.proofs.receives.all_marks.Given as goal

abbrev pub invariant-loop-pid : goal.invariant-loop-pid
invariant-loop-pid l = l.shown.items ≡ map no_marks (take l.pid-index l.streams)
