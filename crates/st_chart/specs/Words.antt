-- The words that reports and charts share (own profile).
use Rattle.std.specs.Prelude.{ℕ, List, ◌++◌, codes, decimal}
use Rattle.st_core.specs.declared.types.Pid.{Pid}
use Rattle.st_text.specs.Spelling as spelled

-- a place: a process, and an index in its stream, counted from 0
abbrev pub place_words : Pid → ℕ → List ℕ
place_words p i = spelled.pid p ++ codes " " ++ decimal i
