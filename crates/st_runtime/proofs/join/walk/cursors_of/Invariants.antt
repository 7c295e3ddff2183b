-- So far there is a cursor for each process that was taken, and room for the others.
use Rattle.std.proofs.Common.{◌≡◌, ◌≤◌, length, map, take, vec_len}
use Rattle.std.specs.Prelude.{All}
use Rattle.std.specs.Vec.{vec_capacity}
use Rattle.st_runtime.specs.Pcb.{Control, IsFromLog}
use Rattle.st_runtime.specs.Walk.{start}
use Rattle.st_runtime.proofs.join.walk.cursors_of.Given as goal

abbrev pub invariant-loop-process : goal.invariant-loop-process
invariant-loop-process g l =
    (l.cursors.items ≡ map start (take l.process-index l.processes))
    × All (λ (x : Control). IsFromLog g.row.TOP g.row.RANKS x.process x.log)
    (take l.process-index l.processes)
    × (vec_len l.cursors ≡ l.process-index)
    × (length l.processes ≤ vec_capacity l.cursors)
