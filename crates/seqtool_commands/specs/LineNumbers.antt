-- The line number of an event or an act in the text of a bundle, counted from 1: the header is
-- line 1, and each process, each event, the word acts and each act takes a line.
use Rattle.std.specs.Prelude.{ℕ, ◌+◌, nat_lt, List, [], ◌∷◌, length, Option, Some, None}
use Rattle.std.specs.Prelude.{if◌then◌else◌}
use Rattle.st_core.specs.declared.types.Pid.{Pid}
use Rattle.st_core.specs.Pid.{pid_eq}
use Rattle.st_core.specs.Run.{Stream}

-- the line of event i of p, if the first stream's first event is on line `first`; the next process
-- comes after a process's events
abbrev pub line_from : ℕ → List Stream → Pid → ℕ → Option ℕ
line_from first [] p i = None
line_from first (s ∷ rest) p i =
    if pid_eq s.pid p then (if nat_lt i (length s.events) then Some (first + i) else None)
    else line_from (first + length s.events + 1) rest p i

-- the line of event i of p, or none if there is no such event; the header and the first process
-- are above the first event
abbrev pub line_number_of : List Stream → Pid → ℕ → Option ℕ
line_number_of streams p i = line_from 3 streams p i

-- the line on which a further process's first event would be, if the first stream's is on line
-- `first`
abbrev pub line_behind : ℕ → List Stream → ℕ
line_behind first [] = first
line_behind first (s ∷ rest) = line_behind (first + length s.events + 1) rest

-- the line of act n, if the bundle has acts: the word acts takes the line of a further process
abbrev pub act_line_number_of : List Stream → ℕ → ℕ
act_line_number_of streams n = line_behind 3 streams + n
