-- The command line: the task that a list of words asks for, and its file. The words of a command
-- come in one order; the file is last.
use Rattle.std.specs.Prelude.{ℕ, Bool, false, List, [], ◌∷◌, Option, Some, None, option_map}
use Rattle.std.specs.Prelude.{option_and_then, ◌++◌, ◌==◌, if◌then◌else◌, codes}
use Rattle.std.specs.Str.{bytes_eq}
use Rattle.st_core.specs.declared.types.Pid.{Pid}
use Rattle.st_text.specs.Parsing.{number_in, pid_in}
use Rattle.node_hops.specs.declared.reach.Reach.{Reach}
use Rattle.seqtool_commands.specs.declared.complete.Form.{Form}
use Rattle.seqtool_commands.specs.declared.complete.Form.TheVariants as form
use Rattle.seqtool_commands.specs.declared.question.Direction.{Direction}
use Rattle.seqtool_commands.specs.declared.question.Direction.TheVariants as direction
use Rattle.seqtool_commands.specs.declared.question.Question.{Question}
use Rattle.seqtool_commands.specs.declared.words.ToolTask.{ToolTask}
use Rattle.seqtool_commands.specs.declared.words.ToolTask.TheVariants as task

abbrev pub Word : Type 0
Word = List ℕ

-- the words after the given one, if they begin with it
abbrev pub words_behind : Word → List Word → Option (List Word)
words_behind word [] = None
words_behind word (w ∷ rest) = if bytes_eq w word then Some rest else None

-- ---- check

-- the task that words begin with, and the words after it: by the machine of the manual, unless
-- they say `--node`
abbrev pub check_asked : List Word → ToolTask × List Word
check_asked words = elim (words_behind (codes "--node") words) [
  | None ↦ (task.Check, words)
  | Some rest ↦ (task.CheckNode, rest)
]

-- ---- complete

abbrev pub form_named : Word → Option Form
form_named w =
    if bytes_eq w (codes "added") then Some form.Added
    else (if bytes_eq w (codes "streams") then Some form.Streams
    else (if bytes_eq w (codes "acts") then Some form.Acts else None))

-- the form that the words after `--as` begin with, and the words after it
abbrev pub named_form : List Word → Option (Form × List Word)
named_form [] = None
named_form (w ∷ rest) = option_map (λ f. (f, rest)) (form_named w)

-- the form that words begin with, and the words after it: the added events, unless they say `--as`
abbrev pub form_asked : List Word → Option (Form × List Word)
form_asked words = elim (words_behind (codes "--as") words) [
  | None ↦ Some (form.Added, words)
  | Some rest ↦ named_form rest
]

-- ---- why

-- as far as one label goes
abbrev pub label_reach : Reach
label_reach = record { most = 18446744073709551615; across = false }

-- the direction that words begin with, and the words after it: back, unless they say `--effects`
abbrev pub direction_asked : List Word → Direction × List Word
direction_asked words = elim (words_behind (codes "--effects") words) [
  | None ↦ (direction.Back, words)
  | Some rest ↦ (direction.Forth, rest)
]

abbrev pub question_about : Pid → ℕ → Direction × List Word → Question × List Word
question_about p i way = (record { place = (p, i); direction = way.0; reach = label_reach }, way.1)

-- the question that words begin with, and the words after it
abbrev pub question_asked : List Word → Option (Question × List Word)
question_asked [] = None
question_asked (p ∷ []) = None
question_asked (p ∷ i ∷ rest) =
    option_and_then (λ pid. option_map (λ index. question_about pid index (direction_asked rest))
    (number_in i))
    (pid_in p)

-- ---- all commands

-- the task of the command with the name, by the words after it, and the words that are left
abbrev pub task_named : Word → List Word → Option (ToolTask × List Word)
task_named name words =
    if bytes_eq name (codes "check") then Some (check_asked words)
    else (if bytes_eq name (codes "audit") then Some (task.Audit, words)
    else (if bytes_eq name (codes "renumber") then Some (task.Renumber, words)
    else (if bytes_eq name (codes "complete") then option_map (λ x. (task.Complete x.0, x.1))
    (form_asked words)
    else (if bytes_eq name (codes "why") then option_map (λ x. (task.Why x.0, x.1))
    (question_asked words)
    else None))))

-- a word that begins with a minus names no file
abbrev pub begins_with_minus : Word → Bool
begins_with_minus [] = false
begins_with_minus (b ∷ rest) = b == 45

-- the file that a word names; - is standard input
abbrev pub file_named : Word → Option (Option Word)
file_named w =
    if bytes_eq w (codes "-") then Some None
    else (if begins_with_minus w then None else Some (Some w))

-- the file that is the only word left; standard input, if there is none
abbrev pub file_asked : List Word → Option (Option Word)
file_asked [] = Some None
file_asked (w ∷ []) = file_named w
file_asked (w ∷ x ∷ rest) = None

-- the task, and the file unless it is standard input; the first word is the program's name
abbrev pub request_asked : List Word → Option (ToolTask × Option Word)
request_asked [] = None
request_asked (program ∷ []) = None
request_asked (program ∷ name ∷ words) =
    option_and_then (λ x. option_map (λ file. (x.0, file)) (file_asked x.1)) (task_named name words)

-- whether the words ask for the version alone
abbrev pub version_asked : List Word → Bool
version_asked [] = false
version_asked (program ∷ []) = false
version_asked (program ∷ w ∷ []) = bytes_eq w (codes "--version")
version_asked (program ∷ w ∷ x ∷ rest) = false

-- ---- what is written of words that ask for no task

abbrev pub tool_usage_words : List ℕ
tool_usage_words =
    codes "usage: seqtool audit|renumber [FILE], or check [--node] [FILE], "
    ++ codes "or complete [--as added|streams|acts] [FILE], or why PID INDEX [--effects] [FILE]"

abbrev pub tool_version_words : List ℕ
tool_version_words = codes "seqtool 1.0.0"
