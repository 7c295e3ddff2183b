-- Each process's script is its own acts among the acts so far.
use Rattle.std.proofs.Common.{◌≡◌, take}
use Rattle.st_core.specs.Run.{pids_of}
use Rattle.st_commands.specs.Recorded.{scripts_of}
use Rattle.st_commands.proofs.drive.scripts_of.Given as goal

abbrev pub invariant-loop-act : goal.invariant-loop-act
invariant-loop-act l = l.scripts.items ≡ scripts_of (pids_of l.streams) (take l.act-index l.fn.acts)
