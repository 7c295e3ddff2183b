-- Homes of messages: gaps whose process passes the count, or ends of processes below it.
use Rattle.std.specs.Prelude.{◌≡◌, ◌<◌, false, List, Some, length, slice_get}
use Rattle.st_core.specs.declared.types.Pid.{Pid}
use Rattle.st_core.specs.Laws.{greatest_count, prev_after}
use Rattle.st_core.specs.Run.{Stream, pids_of}
use Rattle.st_core.specs.Streams.{events_of}
use Rattle.lack_acts.specs.declared.gaps.Gap.{Gap}
use Rattle.lack_acts.specs.declared.homes.ProcessEnd.{ProcessEnd}
use Rattle.lack_acts.specs.declared.strays.Stray.{Stray}
use Rattle.lack_acts.specs.Gaps.{gap_before}

-- the end of a listed process has the number of its events, and what they leave
pub record IsEndIn (streams : List Stream) (end : ProcessEnd) : Type 0 where
  pub pid : Pid
  pub listed : slice_get (pids_of streams) end.process ≡ Some pid
  pub greatest : end.greatest ≡ greatest_count (events_of streams pid)
  pub prev : end.prev ≡ prev_after (events_of streams pid)
  pub event_count : end.event_count ≡ length (events_of streams pid)

-- the gap before a send of the message after all events of a process
abbrev pub gap_after : ProcessEnd → Stray → Gap
gap_after end stray = gap_before end.process end.event_count stray.label
    (record { prev = end.prev; this = stray.count })
    (record { greatest = end.greatest; prev = end.prev }) false

-- the gap ends at the message's count, and begins below it
pub record IsGapFor (stray : Stray) (g : Gap) : Type 0 where
  pub count : g.serial.this ≡ stray.count
  pub below : g.left.greatest < stray.count
