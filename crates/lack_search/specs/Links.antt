-- For the parts alone: the links of a candidate's events.
use Rattle.std.specs.Prelude.{◌≡◌, ℕ, List, map, length, Some, slice_get}
use Rattle.st_core.specs.declared.types.Pid.{Pid}
use Rattle.st_core.specs.Run.{pids_of, Stream}
use Rattle.lack_search.specs.declared.links.Linker.{Linker}
use Rattle.lack_search.specs.declared.links.MessageEnd.{MessageEnd}

-- the number of events of each process
abbrev pub event_counts : List Stream → List ℕ
event_counts whole = map (λ x. length x.events) whole

-- the number of links of each process
abbrev pub lengths_of : Linker → List ℕ
lengths_of linker = map (λ row. length row.items) linker.rows.items

-- each process keeps its number of links
abbrev pub KeepsShape : Linker → Linker → Type 0
KeepsShape old new = lengths_of new ≡ lengths_of old

-- the end is at an event of p, by its place in the whole streams
abbrev pub IsMessageEndIn : List Stream → Pid → MessageEnd → Type 0
IsMessageEndIn whole p end = slice_get (pids_of whole) end.process ≡ Some p
