-- The tables of lines: that of each process's first event, and that of the first act.
use Rattle.std.specs.Prelude.{◌≡◌, ℕ, ◌+◌, ◌<◌, ◌^◌, List, [], ◌∷◌, length, Option, Some, None}
use Rattle.std.specs.Prelude.{if◌then◌else◌}
use Rattle.st_core.specs.declared.types.Pid.{Pid}
use Rattle.st_core.specs.Pid.{pid_eq}
use Rattle.st_core.specs.Run.{Stream}
use Rattle.st_core.specs.Streams.{IsStreams}
use Rattle.seqtool_commands.specs.LineNumbers.{line_behind}

-- the line of each stream's first event, if the first stream's is on line `first`
abbrev pub firsts_from : ℕ → List Stream → List ℕ
firsts_from first [] = []
firsts_from first (s ∷ rest) = first ∷ firsts_from (first + length s.events + 1) rest

-- the line of p's first event, if p is listed; p may have no event there
abbrev pub first_line : ℕ → List Stream → Pid → Option ℕ
first_line first [] p = None
first_line first (s ∷ rest) p =
    if pid_eq s.pid p then Some first else first_line (first + length s.events + 1) rest p

-- the tables have the line of each stream's first event, and that of the first act
pub record AreFirsts (streams : List Stream) (firsts : List ℕ) (first_act : ℕ) : Type 0 where
  pub sound : IsStreams streams
  pub kept : firsts ≡ firsts_from 3 streams
  pub act : first_act ≡ line_behind 3 streams
  pub fits : line_behind 3 streams < 2 ^ 64
