-- The definitions of the command line, computed on worked lines: each line asks for its task and
-- its file, whatever the program's name.
use Rattle.std.proofs.Common.{◌≡◌, List, [], ◌∷◌, codes, map, refl}
use Rattle.std.specs.Prelude.{Option, Some, None}
use Rattle.std.specs.Fmt.{digits}
use Rattle.st_core.specs.Pid.{pid_on}
use Rattle.st_text.specs.Parsing.{number, number_in, parse_bare_pid, parse_pid, pid_in}
use Rattle.seqtool_commands.specs.declared.complete.Form.TheVariants as form
use Rattle.seqtool_commands.specs.declared.question.Direction.{Direction}
use Rattle.seqtool_commands.specs.declared.question.Direction.TheVariants as direction
use Rattle.seqtool_commands.specs.declared.words.ToolTask.{ToolTask}
use Rattle.seqtool_commands.specs.declared.words.ToolTask.TheVariants as task
use Rattle.seqtool_commands.specs.Words.{Word, label_reach, request_asked}

module _ (name : Word) where
  abbrev Line : Type 0
  Line = List Word × Option (ToolTask × Option Word)

  abbrev file : Word
  file = codes "trace.txt"

  abbrev plain_lines : List Line
  plain_lines =
      (name ∷ codes "check" ∷ [], Some (task.Check, None))
      ∷ (name ∷ codes "check" ∷ codes "--node" ∷ file ∷ [], Some (task.CheckNode, Some file))
      ∷ (name ∷ codes "check" ∷ file ∷ codes "--node" ∷ [], None)
      ∷ (name ∷ codes "audit" ∷ codes "--node" ∷ file ∷ [], None)
      ∷ (name ∷ codes "audit" ∷ file ∷ [], Some (task.Audit, Some file))
      ∷ (name ∷ codes "renumber" ∷ codes "-" ∷ [], Some (task.Renumber, None))
      ∷ (name ∷ codes "complete" ∷ file ∷ [], Some (task.Complete form.Added, Some file))
      ∷ (
        name ∷ codes "complete" ∷ codes "--as" ∷ codes "acts" ∷ [],
        Some (task.Complete form.Acts, None),
      )
      ∷ (
        name ∷ codes "complete" ∷ codes "--as" ∷ codes "streams" ∷ file ∷ [],
        Some (task.Complete form.Streams, Some file),
      )
      ∷ (name ∷ codes "complete" ∷ codes "--as" ∷ [], None)
      ∷ (name ∷ codes "complete" ∷ codes "--as" ∷ file ∷ [], None)
      ∷ (name ∷ codes "complete" ∷ file ∷ codes "--as" ∷ codes "acts" ∷ [], None)
      ∷ (name ∷ codes "check" ∷ codes "--json" ∷ [], None)
      ∷ (name ∷ codes "check" ∷ file ∷ file ∷ [], None)
      ∷ (name ∷ codes "lint" ∷ [], None)
      ∷ (name ∷ codes "--version" ∷ [], None)
      ∷ (name ∷ [], None)
      ∷ ([], None)
      ∷ []

  -- The words come in one order, with the file last: no word that begins with a minus is a file.
  plain_words : map (λ line. request_asked line.0) plain_lines ≡ map (λ line. line.1) plain_lines
  plain_words = refl

  -- the task of `why` about event 2 of <0.31.0>
  abbrev asked_about : Direction → Option Word → Option (ToolTask × Option Word)
  asked_about way path = Some
      (task.Why (record { place = (pid_on 0 31, 2); direction = way; reach = label_reach }), path)

  abbrev why_lines : List Line
  why_lines =
      (name ∷ codes "why" ∷ codes "0.31.0" ∷ codes "2" ∷ [], asked_about direction.Back None)
      ∷ (
        name ∷ codes "why" ∷ codes "<0.31.0>" ∷ codes "2" ∷ file ∷ [],
        asked_about direction.Back (Some file),
      )
      ∷ (
        name ∷ codes "why" ∷ codes "0.31.0" ∷ codes "2" ∷ codes "--effects" ∷ file ∷ [],
        asked_about direction.Forth (Some file),
      )
      ∷ (name ∷ codes "why" ∷ codes "0.31" ∷ codes "2" ∷ [], None)
      ∷ (name ∷ codes "why" ∷ codes "<0.31.0" ∷ codes "2" ∷ [], None)
      ∷ (name ∷ codes "why" ∷ codes "0.65536.0" ∷ codes "2" ∷ [], None)
      ∷ (name ∷ codes "why" ∷ codes "0.31.0" ∷ codes "02" ∷ [], None)
      ∷ (name ∷ codes "why" ∷ codes "0.31.0" ∷ [], None)
      ∷ []

  -- A pid may be in angle brackets, both or none, and each number has one spelling.
  why_words : map (λ line. request_asked line.0) why_lines ≡ map (λ line. line.1) why_lines
  unfolding number number_in parse_bare_pid parse_pid pid_in digits
  why_words = refl
