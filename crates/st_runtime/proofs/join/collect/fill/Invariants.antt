-- So far the last stream has the process's reports of the entries that were taken.
use Rattle.std.proofs.Common.{◌≡◌, List, [], ◌∷◌, ◌++◌, take, true}
use Rattle.st_core.specs.Run.{Stream}
use Rattle.st_core.specs.Streams.{ComesLast, lists}
use Rattle.st_runtime.specs.Joined.{reports_of}
use Rattle.st_runtime.proofs.Collecting.{of}
use Rattle.st_runtime.proofs.join.collect.fill.Given as goal

abbrev pub invariant-loop-place : goal.invariant-loop-place
invariant-loop-place l =
    (lists l.draft l.pid ≡ true)
    × ((xs : List Stream) → ComesLast xs l.pid → l.initial.draft ≡ xs ++ of l.pid [] ∷ []
    → l.draft ≡ xs ++ of l.pid (reports_of l.pid (take l.place l.log.entries)) ∷ [])
