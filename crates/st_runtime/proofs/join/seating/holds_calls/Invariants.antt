-- The calls are the log's exactly if those that are left are the calls of the entries that are
-- left.
use Rattle.std.proofs.Common.{◌≡◌, ◌≤◌, ◌↔◌, drop, length}
use Rattle.st_runtime.specs.Pieces.{calls_of}
use Rattle.st_runtime.proofs.join.seating.holds_calls.Given as goal

-- what is left of the calls and of the log decides
abbrev pub invariant-loop-place : goal.invariant-loop-place
invariant-loop-place l =
    (l.next ≤ length l.mine.calls)
    × ((l.mine.calls ≡ calls_of l.pid l.log.entries)
    ↔ (drop l.next l.mine.calls ≡ calls_of l.pid (drop l.place l.log.entries)))
