-- A log as contracts see it: its entries by place, its last rank, and which acts touch a whole
-- node.
use Rattle.std.specs.Prelude.{ℕ, Bool, true, false, List, [], ◌∷◌, None, slice_index_or}
use Rattle.st_core.specs.declared.types.Act.{Act}
use Rattle.st_core.specs.declared.types.Act.TheVariants as act
use Rattle.st_core.specs.declared.types.Reply.TheVariants as reply
use Rattle.st_core.specs.Pid.{pid_on}
use Rattle.st_log.specs.declared.entry.Entry.{Entry}

-- the entries of a log, and the number of further entries for which room is reserved
pub record Logged : Type 0 where
  pub entries : List Entry
  pub spare : ℕ

-- the filler for a place without an entry: any entry would do
abbrev pub no_entry : Entry
no_entry = record {
  rank = 0;
  act = act.Reset (pid_on 0 0);
  reply = reply.Done;
  report = None;
  carried = None;
}

-- the entry at a place of a log, or the filler if there is none
abbrev pub entry_at : List Entry → ℕ → Entry
entry_at es i = slice_index_or es i no_entry

-- the rank of the last entry, which is the greatest if ranks rise; low if there are no entries
abbrev pub last_rank : ℕ → List Entry → ℕ
last_rank low [] = low
last_rank low (e ∷ es) = last_rank e.rank es

-- a reset or a tracer change, which touches all processes of its actor's node
abbrev pub is_wide : Act → Bool
is_wide (act.Reset p) = true
is_wide (act.Tracer p b) = true
is_wide a = false
