-- The rule by which `stamp_of` finds a send or print of a process.
use Rattle.std.proofs.Common.{ℕ, ◌==◌, ◌&&◌, Option, None, Some, if◌then◌else◌}
use Rattle.st_core.specs.declared.types.Pid.{Pid}
use Rattle.st_core.specs.declared.types.Event.{Event}
use Rattle.st_pair.specs.Places.{is_stamp}

abbrev pub own_rule : ℕ → Pid → ℕ → Event → Option (ℕ × Event)
own_rule this p j f = if is_stamp f && f.serial.this == this then Some (j, f) else None
