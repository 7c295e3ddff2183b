-- When two events are equal.
use Rattle.std.specs.Prelude.{◌==◌, ◌&&◌, Bool, true, false, Option, Some, None}
use Rattle.st_core.specs.declared.types.Pid.{Pid}
use Rattle.st_core.specs.declared.types.Kind.{Kind}
use Rattle.st_core.specs.declared.types.Kind.TheVariants as kind
use Rattle.st_core.specs.declared.types.Event.{Event}
use Rattle.st_core.specs.Pid.{pid_eq}

-- k and l are the same kind
abbrev pub kind_eq : Kind → Kind → Bool
kind_eq kind.Send kind.Send = true
kind_eq kind.Receive kind.Receive = true
kind_eq kind.Print kind.Print = true
kind_eq _ _ = false

-- p and q are the same process, or both are missing
abbrev pub to_eq : Option Pid → Option Pid → Bool
to_eq None None = true
to_eq (Some p) (Some q) = pid_eq p q
to_eq _ _ = false

-- d and e agree in every field
abbrev pub event_eq : Event → Event → Bool
event_eq d e = d.label.0 == e.label.0 && (kind_eq d.kind e.kind && (d.serial.prev == e.serial.prev
    && (d.serial.this == e.serial.this
    && (pid_eq d.from e.from && (to_eq d.to e.to && d.value == e.value)))))
