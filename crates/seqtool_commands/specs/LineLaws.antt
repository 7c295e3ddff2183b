-- The laws of line numbers, each the contract of a function of `line_laws`.
use Rattle.std.specs.Prelude.{◌≡◌, ℕ, ◌-◌, suc, List, Some, slice_get}
use Rattle.st_core.specs.declared.types.Act.{Act}
use Rattle.st_core.specs.declared.types.Pid.{Pid}
use Rattle.st_core.specs.declared.types.Event.{Event}
use Rattle.st_core.specs.Pid.{IsRising}
use Rattle.st_core.specs.Run.{pids_of}
use Rattle.st_core.specs.Streams.{events_of}
use Rattle.st_text.specs.declared.line.Line.TheVariants as lines
use Rattle.st_text.specs.Text.{Contents, lines_of}
use Rattle.seqtool_commands.specs.LineNumbers.{act_line_number_of, line_number_of}

-- event i of p has a line number, and that line of the bundle's text is the event
abbrev pub EventsHaveTheirLines : Type 0
EventsHaveTheirLines = (c : Contents) (p : Pid) (i : ℕ) (e : Event)
    → slice_get (events_of c.streams p) i ≡ Some e
    → (n : ℕ) × (line_number_of c.streams p i ≡ Some n)
    × (slice_get (lines_of c) (n - 1) ≡ Some (lines.Event e))

-- each line of the text that is an event's is the line of an event of a process
abbrev pub EventLinesHavePlaces : Type 0
EventLinesHavePlaces = (c : Contents) (n : ℕ) (e : Event) → IsRising (pids_of c.streams)
    → slice_get (lines_of c) n ≡ Some (lines.Event e)
    → (p : Pid) × (i : ℕ) × (slice_get (events_of c.streams p) i ≡ Some e)
    × (line_number_of c.streams p i ≡ Some (suc n))

-- the line of the bundle's text that has the number of act n is that act
abbrev pub ActsHaveTheirLines : Type 0
ActsHaveTheirLines = (c : Contents) (acts : List Act) (n : ℕ) (a : Act) → c.acts ≡ Some acts
    → slice_get acts n ≡ Some a
    → slice_get (lines_of c) (act_line_number_of c.streams n - 1) ≡ Some (lines.Act a)
