-- Streams with further processes that report nothing.
use Rattle.std.specs.Prelude.{[], List, ◌∷◌, if◌then◌else◌, ℕ}
use Rattle.std.specs.Ordering.{is_lt}
use Rattle.st_core.specs.declared.types.Pid.{Pid}
use Rattle.st_core.specs.Pid.{pid_cmp}
use Rattle.st_core.specs.Run.{Stream}
use Rattle.st_core.specs.Streams.{lists}
use Rattle.lack_laws.specs.Completed.{IsShownInOneTrace}

-- a process without events
abbrev pub silent : Pid → Stream
silent q = record { pid = q; events = [] }

-- the streams with q put in by its pid, without events
abbrev pub inserted : Pid → List Stream → List Stream
inserted q [] = silent q ∷ []
inserted q (x ∷ rest) =
    if is_lt (pid_cmp q x.pid) then silent q ∷ x ∷ rest else x ∷ inserted q rest

-- the streams with a process without events for each of these pids that they don't list
abbrev pub with_silent : List Stream → List Pid → List Stream
with_silent streams [] = streams
with_silent streams (q ∷ qs) =
    if lists (with_silent streams qs) q then with_silent streams qs
    else inserted q (with_silent streams qs)

-- acts without a reset show the streams with some processes that report nothing
pub record IsShownWithOthers (top : ℕ) (streams : List Stream) : Type 0 where
  pub others : List Pid
  pub shown : IsShownInOneTrace top (with_silent streams others)
