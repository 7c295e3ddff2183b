-- The acts that were taken are the first of the scripts.
use Rattle.std.proofs.Common.{◌≡◌, length, take}
use Rattle.st_runtime.proofs.Scripted.{AreBegun}
use Rattle.st_runtime.proofs.join.scripts.check_scripts.Given as goal

abbrev pub invariant-loop-act : goal.invariant-loop-act
invariant-loop-act l = AreBegun l.pids (take l.act-index l.acts) l.made.items l.scripts
    × (length l.made.items ≡ length l.pids)
