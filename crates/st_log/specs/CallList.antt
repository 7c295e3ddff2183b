-- A list of calls, as contracts see it.
use Rattle.std.specs.Prelude.{ℕ, List}
use Rattle.st_core.specs.declared.types.Act.{Act}
use Rattle.st_core.specs.declared.types.Reply.{Reply}

-- the calls (acts with their replies) in order, and the number of further calls for which room is
-- reserved
pub record CallList : Type 0 where
  pub calls : List (Act × Reply)
  pub spare : ℕ
