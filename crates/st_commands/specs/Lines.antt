-- The words of each line that isn't part of a bundle, a report or a chart, for the contracts of
-- the functions that write it.
use Rattle.std.specs.Prelude.{ℕ, ◌+◌, List, ◌++◌, codes, decimal}
use Rattle.st_text.specs.Room.{pid_room, number_room}
use Rattle.st_text.specs.Spelling as spelled
use Rattle.st_commands.specs.declared.lines.OutputLine.{OutputLine}
use Rattle.st_commands.specs.declared.lines.OutputLine.TheVariants as lines
use Rattle.st_commands.specs.Output.{pair_words, fault_words, usage_words}
use Rattle.st_commands.specs.Recorded.{act_fault_words}

abbrev pub output_words : OutputLine → List ℕ
output_words lines.Yes = codes "yes"
output_words (lines.Pair r s) = pair_words (r, s)
output_words (lines.Stuck n) = codes "no stuck " ++ decimal n
output_words (lines.Differs n) = codes "no differs " ++ decimal n
output_words (lines.Left p) = codes "no left " ++ spelled.pid p
output_words (lines.NoLabel l) = codes "no label " ++ spelled.label l
output_words (lines.Fault f) = fault_words f
output_words lines.NoActs = codes "fault no acts"
output_words (lines.ActFault p n) = act_fault_words p n
output_words lines.ThreadFault = codes "fault thread"
output_words lines.JoinFault = codes "fault join"
output_words lines.Usage = usage_words

-- the room for the words of a line: no line needs more than that of an act that was refused, with
-- each number as long as a number can be
abbrev pub output_room : ℕ
output_room = 11 + pid_room + number_room
