-- A seat as contracts see it.
use Rattle.std.specs.Prelude.{List, []}
use Rattle.st_core.specs.declared.types.Pid.{Pid}
use Rattle.st_core.specs.declared.types.Act.{Act}
use Rattle.st_core.specs.declared.types.Reply.{Reply}

-- the seat's process, and the acts that were accepted through the seat with their replies, in
-- order
pub record Calls : Type 0 where
  pub pid : Pid
  pub mine : List (Act × Reply)

-- a seat through which no act was made yet
abbrev pub no_calls : Pid → Calls
no_calls p = record { pid = p; mine = [] }
