-- The table so far with what is left comes to the table at first with all, and no receive so far
-- was a second one.
use Rattle.std.proofs.Common.{◌≡◌, ℕ, Option, drop}
use Rattle.st_core.specs.declared.types.Pid.{Pid}
use Rattle.st_pair.specs.declared.receives.Key.{Key}
use Rattle.st_pair.specs.Places.{first_from, or_else}
use Rattle.st_pair.specs.Pairing.{repeated}
use Rattle.st_pair.specs.Tables.{place_for, receive_rule, HasReceivesWith}
use Rattle.st_pair.proofs.receives.note_receives.Given as goal

abbrev pub invariant-loop-i : goal.invariant-loop-i
invariant-loop-i l = record {
  noted : (k : Key) → or_else (place_for l.streams l.receives k)
      (first_from (receive_rule k) l.pid l.i (drop l.i l.events))
      ≡ or_else (place_for l.streams l.initial.receives k)
      (first_from (receive_rule k) l.pid 0 l.events);
  once : (rest : Key → Option (Pid × ℕ))
      → HasReceivesWith l.streams (place_for l.streams l.initial.receives)
      (λ k. or_else (first_from (receive_rule k) l.pid 0 l.events) (rest k))
      → first_from (repeated l.streams) l.pid 0 l.events
      ≡ first_from (repeated l.streams) l.pid l.i (drop l.i l.events);
}
