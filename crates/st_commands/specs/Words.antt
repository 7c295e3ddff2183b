-- The command line, in the words of `clap`: which command a list of words asks for.
use Rattle.std.specs.Prelude.{◌≡◌, ◌≢◌, ℕ, pos, true, List, Option, Some, None, option_map}
use Rattle.std.specs.Prelude.{option_and_then, codes, if◌then◌else◌}
use Rattle.std.specs.Str.{bytes_eq}
use Rattle.std.specs.Str.Parse.{digits_value, without_leading_plus}
use Rattle.clap.specs.Words.{App, Row, Rule, Text, new_app, new_rule, one_of, with_rule}
use Rattle.clap.specs.Words.{with_subcommand, subcommand_of, fault_of}
use Rattle.clap.specs.ValueTests.{is_unsigned_in}
use Rattle.clap.specs.Walk.{is_empty}
use Rattle.clap.specs.declared.builder.value_parser.ValueParser.TheVariants as parser
use Rattle.clap.specs.declared.error.kind.ErrorKind.{ErrorKind}
use Rattle.clap.specs.declared.error.kind.ErrorKind.TheVariants as kinds
use Rattle.st_core.specs.declared.types.Label.{Label}
use Rattle.st_commands.specs.declared.words.Task.{Task}
use Rattle.st_commands.specs.declared.words.Task.TheVariants as task
use Rattle.st_commands.specs.declared.words.Refusal.{Refusal}
use Rattle.st_commands.specs.declared.words.Refusal.TheVariants as refused

-- ---- what `clap` is told

abbrev pub greatest_label : ℕ
greatest_label = 4294967295

-- the option `--label N`: it has to be given, and N is a number from 0 to the greatest label
abbrev pub label_rule : Rule
label_rule = record (new_rule (codes "label")) {
  long = Some (codes "label");
  required = true;
  parser = Some (parser.Signed (pos 0) (pos greatest_label));
}

abbrev pub chart_line : App
chart_line = with_rule (new_app (codes "chart")) label_rule

-- the program and its commands; only `chart` takes words of its own
abbrev pub command_line : App
command_line =
    with_subcommand (with_subcommand
    (with_subcommand (with_subcommand (with_subcommand (new_app (codes "seqaudit"))
    (new_app (codes "check")).top) (new_app (codes "audit")).top) (new_app (codes "replay")).top)
    (new_app (codes "drive")).top) chart_line.top

-- ---- what the words ask for

abbrev pub label_numbered : ℕ → Label
label_numbered n = record { 0 = n }

-- the label whose number a text writes; none if the number is no label's, or if there is no number
abbrev pub label_in : Text → Option Label
label_in text =
    if is_unsigned_in 0 greatest_label text
    then Some (label_numbered (digits_value 10 (without_leading_plus text)))
    else None

-- the chart that the words of `chart` ask for, by what `clap` found in them; `clap` leaves out the
-- first minus of a number
abbrev pub chart_of : List Row → Option Task
chart_of found =
    option_map (λ l. task.Chart l) (option_and_then label_in (one_of (codes "label") found))

-- the command with the name, by what `clap` found in the command's own words
abbrev pub task_of : Text → List Row → Option Task
task_of name found =
    if bytes_eq name (codes "check") then Some task.Check
    else (if bytes_eq name (codes "audit") then Some task.Audit
    else (if bytes_eq name (codes "replay") then Some task.Replay
    else (if bytes_eq name (codes "drive") then Some task.Drive
    else (if bytes_eq name (codes "chart") then chart_of found else None))))

-- the command that the words ask for, by the subcommand that `clap` finds in them; none if `clap`
-- refuses the words or finds no subcommand
abbrev pub task_asked : List Text → Option Task
task_asked words =
    if is_empty (fault_of command_line words) then option_and_then (λ p. task_of p.0 p.1)
    (subcommand_of command_line words) else None

-- ---- refusals

-- the refusal for an error of `clap`: Memory if memory ran out, and Usage for any other kind
abbrev pub IsRefusalOf : ErrorKind → Refusal → Type 0
IsRefusalOf kind refused.Memory = kind ≡ kinds.OutOfMemory
IsRefusalOf kind refused.Usage = kind ≢ kinds.OutOfMemory

-- the words may be refused so: as Usage only if they ask for no command, as Memory always
abbrev pub IsRefusal : List Text → Refusal → Type 0
IsRefusal words refused.Memory = Unit {0}
IsRefusal words refused.Usage = task_asked words ≡ None
