-- For the parts alone: the lowest count of a process's stamps with another prev than 0, of which
-- events tell, and the events that it makes unfounded. Each event tells of a stamp: a send or
-- print of itself, a receive of the send of its message.
use Rattle.std.specs.Prelude.{◌≡◌, ℕ, ◌==◌, ◌&&◌, ◌||◌, not, nat_lt, min, length, slice_get, Bool}
use Rattle.std.specs.Prelude.{false, List, [], ◌∷◌, Option, Some, None, if◌then◌else◌}
use Rattle.std.specs.List.{list_any}
use Rattle.st_core.specs.declared.types.Pid.{Pid}
use Rattle.st_core.specs.declared.types.Event.{Event}
use Rattle.st_core.specs.Pid.{pid_eq}
use Rattle.st_core.specs.Run.{Stream}
use Rattle.st_pair.specs.Places.{is_stamp}
use Rattle.st_order.specs.Items.{is_hidden}

-- the lower of a count and the lowest one that is known
abbrev pub lower_count : Option ℕ → ℕ → ℕ
lower_count None n = n
lower_count (Some m) n = min m n

-- the event tells of a stamp of q with another prev than 0
abbrev pub tells_of : Pid → Event → Bool
tells_of q e = pid_eq e.from q && nat_lt 0 e.serial.prev

-- the lowest count of q's stamps with another prev than 0, after one more event
abbrev pub lowest_with : Pid → Option ℕ → Event → Option ℕ
lowest_with q low e = if tells_of q e then Some (lower_count low e.serial.this) else low

-- the lowest count of q's stamps with another prev than 0, after more events
abbrev pub lowest_in : Pid → Option ℕ → List Event → Option ℕ
lowest_in q low [] = low
lowest_in q low (e ∷ es) = lowest_in q (lowest_with q low e) es

-- the lowest count of q's stamps with another prev than 0, after the events of more streams
abbrev pub lowest_from : Pid → Option ℕ → List Stream → Option ℕ
lowest_from q low [] = low
lowest_from q low (x ∷ rest) = lowest_from q (lowest_in q low x.events) rest

abbrev pub lowest_count : List Stream → Pid → Option ℕ
lowest_count streams q = lowest_from q None streams

-- the list has the lowest count of each process at its place
pub record IsNoted (pids : List Pid) (low : Pid → Option ℕ) (lows : List (Option ℕ)) : Type 0 where
  pub long : length lows ≡ length pids
  pub each : (k : ℕ) (p : Pid) → slice_get pids k ≡ Some p → slice_get lows k ≡ Some (low p)

-- a count below n is known
abbrev pub is_known_below : Option ℕ → ℕ → Bool
is_known_below None n = false
is_known_below (Some m) n = nat_lt m n

-- one of the events is a receive
abbrev pub has_receive : List Event → Bool
has_receive es = list_any (λ d. not (is_stamp d)) es

-- An event is unfounded if it has prev 0 and is a send or print after a receive of its process; or
-- if it has prev 0, is a send, a print or the receive of a hidden send, and some event tells of a
-- stamp of the same process with a lower count and another prev.
abbrev pub is_unfounded : List Stream → List Event → Event → Bool
is_unfounded streams es e = e.serial.prev == 0
    && ((is_stamp e && has_receive es)
    || ((is_stamp e || is_hidden streams e) && is_known_below (lowest_count streams e.from)
    e.serial.this))
