-- Counts of acts, of which there may be none.
use Rattle.std.specs.Prelude.{ℕ, ◌+◌, List, length, Option, Some, None}
use Rattle.st_core.specs.declared.types.Act.{Act}

abbrev pub acts_len : Option (List Act) → ℕ
acts_len None = 0
acts_len (Some list) = length list

-- how many lines the acts take, with the word before them
abbrev pub acts_lines : Option (List Act) → ℕ
acts_lines None = 0
acts_lines (Some list) = 1 + length list
