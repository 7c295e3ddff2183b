-- Gaps: the counts that a process passes unreported before a send or print.
use Rattle.std.specs.Prelude.{◌≡◌, ℕ, ◌-◌, ◌/◌, ◌==◌, ◌&&◌, nat_le, nat_lt, not, Bool, true, false}
use Rattle.std.specs.Prelude.{List, Option, Some, None, if◌then◌else◌, take, slice_get}
use Rattle.st_core.specs.declared.types.Pid.{Pid}
use Rattle.st_core.specs.declared.types.Event.{Event}
use Rattle.st_core.specs.declared.types.Label.{Label}
use Rattle.st_core.specs.declared.types.Serial.{Serial}
use Rattle.st_core.specs.Run.{Stream, pids_of}
use Rattle.st_core.specs.Streams.{events_of}
use Rattle.st_pair.specs.Places.{is_stamp}
use Rattle.lack_needs.specs.declared.flaws.Left.{Left}
use Rattle.lack_needs.specs.Flaws.{left_by}
use Rattle.lack_acts.specs.declared.gaps.TheConstants.{MESSAGE_ACTS}
use Rattle.lack_acts.specs.declared.gaps.Gap.{Gap}

-- the gap before an event with this label and serial, if the process takes no message
abbrev pub gap_before : ℕ → ℕ → Label → Serial → Left → Bool → Gap
gap_before process index n s left behind = record {
  process = process;
  index = index;
  label = n;
  serial = s;
  left = left;
  is_behind_receive = behind;
  is_served = false;
  start = left.greatest;
  prev = left.prev;
}

-- the event begins a new trace: its prev isn't what the events before leave, nor below their
-- greatest count
abbrev pub opens_trace : Gap → Bool
opens_trace g = not (g.serial.prev == g.left.prev) && nat_le g.left.greatest g.serial.prev

-- The greatest count of a message after which the event can still come: the count at which a new
-- trace begins, or, if another receive comes after the message, the last count that the process
-- passes.
abbrev pub target : Gap → Option ℕ
target g = if g.is_served then None
    else (if opens_trace g then Some g.serial.prev
    else (if g.is_behind_receive then Some (g.serial.this - 1) else None))

-- the index of the event before which the process takes the message: the event itself if it begins
-- a new trace, else the receive before it
abbrev pub entry : Gap → ℕ
entry g = if opens_trace g then g.index else g.index - 1

-- a message with this count saves more than half of the acts
abbrev pub gains_by : Gap → ℕ → Bool
gains_by g count = let top = g.serial.this - 1 in
    nat_lt (top - count) ((top - g.left.greatest) / 2 - MESSAGE_ACTS)

-- the gap after its process took a message with this count
abbrev pub entered : Gap → ℕ → Gap
entered g count = if opens_trace g then record g { start = count; prev = count }
    else record g { start = count }

-- the serial of a send with this count: above the start of a new trace its prev is that start
abbrev pub serial_at : Gap → ℕ → Serial
serial_at g count = record {
  prev = if opens_trace g && nat_lt g.serial.prev count then g.serial.prev else g.prev;
  this = count;
}

-- the gap is before a send or print of the streams, and has what the events before leave
pub record IsGapIn (streams : List Stream) (g : Gap) : Type 0 where
  pub pid : Pid
  pub event : Event
  pub listed : slice_get (pids_of streams) g.process ≡ Some pid
  pub at : slice_get (events_of streams pid) g.index ≡ Some event
  pub stamps : is_stamp event ≡ true
  pub is : g ≡ gap_before g.process g.index event.label event.serial
      (left_by (take g.index (events_of streams pid))) g.is_behind_receive
