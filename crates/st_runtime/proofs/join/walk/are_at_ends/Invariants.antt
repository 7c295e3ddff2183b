-- The cursors that were taken are at their ends.
use Rattle.std.proofs.Common.{◌≡◌, [], take}
use Rattle.std.specs.Prelude.{All}
use Rattle.st_runtime.specs.Walk.{Along}
use Rattle.st_runtime.proofs.join.walk.are_at_ends.Given as goal

abbrev pub invariant-loop-cursor : goal.invariant-loop-cursor
invariant-loop-cursor l = All (λ (c : Along). c.left ≡ []) (take l.cursor-index l.cursors)
