-- The rules of pairing as the code applies them.
use Rattle.std.specs.Prelude.{◌≡◌, ℕ, ◌==◌, ◌&&◌, List, Option, Some, None, option_map}
use Rattle.std.specs.Prelude.{if◌then◌else◌}
use Rattle.st_core.specs.declared.types.Pid.{Pid}
use Rattle.st_core.specs.declared.types.Event.{Event}
use Rattle.st_core.specs.Pid.{pid_eq}
use Rattle.st_core.specs.Run.{Stream}
use Rattle.st_pair.specs.declared.answer.PairFault.{PairFault}
use Rattle.st_pair.specs.declared.answer.PairFault.TheVariants as fault
use Rattle.st_pair.specs.declared.rules.Rule.{Rule}
use Rattle.st_pair.specs.declared.rules.Rule.TheVariants as rule
use Rattle.st_pair.specs.Pairing.{prev_not_before, not_rising, stamp_before}

-- what a rule gives at an event
abbrev pub fault_at : Rule → List Stream → Pid → ℕ → Event → Option PairFault
fault_at rule.PrevNotBefore streams = prev_not_before
fault_at rule.NotRising streams = not_rising streams

-- what `repeated` gives at the receive at (p, i), if the first receive with its sender and count
-- is at `at`
abbrev pub repeated_by : Pid × ℕ → Pid → ℕ → Option PairFault
repeated_by at p i = if pid_eq at.0 p && at.1 == i then None else Some
    (fault.Repeated p i at.0 at.1)

-- the fault is the first one that a rule gives, or memory ran out
abbrev pub IsFirstFault : Option PairFault → PairFault → Type 0
IsFirstFault first fault.Memory = Unit {0}
IsFirstFault first f = first ≡ Some f

-- the index and the count of the last send or print before index i
abbrev pub count_before : List Event → ℕ → Option (ℕ × ℕ)
count_before es i = option_map (λ f. (f.0, f.1.serial.this)) (stamp_before es i)
