-- The definitions of the output and of the command line are computed here on worked values, so
-- that a reader sees that they say what is meant.
use Rattle.std.proofs.Common.{◌≡◌, ℕ, List, [], ◌∷◌, codes, map, refl}
use Rattle.std.specs.Prelude.{Option, Some, None}
use Rattle.std.specs.Fmt.{digits}
use Rattle.clap.specs.Words.{Text}
use Rattle.clap.proofs.OnLiterals.{clap_on_literals}
use Rattle.st_core.specs.Pid.{pid_on}
use Rattle.st_core.specs.Verdict.{Stuck, Differs, Left, Yes}
use Rattle.st_text.specs.declared.fault.ReadFault.TheVariants as faults
use Rattle.st_commands.specs.Output.{judged, refused, no_acts, usage}
use Rattle.st_commands.specs.Recorded.{act_fault}
use Rattle.st_commands.specs.declared.words.Task.{Task}
use Rattle.st_commands.specs.declared.words.Task.TheVariants as task
use Rattle.st_commands.specs.Words.{task_asked, label_numbered}

-- ---- outputs

two_pairs : (judged (Yes ((9, 4) ∷ (10, 8) ∷ []))).text ≡ codes "yes\npair 9 4\npair 10 8\n"
unfolding digits
two_pairs = refl

no_pairs : (judged (Yes [])).text ≡ codes "yes\n"
no_pairs = refl

stuck_at_4 : (judged (Stuck 4)).text ≡ codes "no stuck 4\n"
unfolding digits
stuck_at_4 = refl

differs_at_10 : (judged (Differs 10)).text ≡ codes "no differs 10\n"
unfolding digits
differs_at_10 = refl

events_left : (judged (Left (pid_on 1 30))).text ≡ codes "no left <1.30.0>\n"
unfolding digits
events_left = refl

too_many : (refused (faults.TooMany 1026)).text ≡ codes "fault too many 1026\n"
unfolding digits
too_many = refl

statuses : (judged (Yes [])).status ∷ (judged (Stuck 0)).status ∷ no_acts.status
    ∷ (refused faults.Truncated).status
    ∷ usage.status ∷ (refused faults.Memory).status ∷ [] ≡ 0 ∷ 1 ∷ 2 ∷ 2 ∷ 3 ∷ 4 ∷ []
statuses = refl

refused_act : (act_fault (pid_on 1 30) 4).text ≡ codes "fault act <1.30.0> 4\n"
unfolding digits
refused_act = refl

-- ---- command lines, each with the command that it asks for, whatever the program's name

module _ (name : Text) where
  abbrev plain_lines : List (List Text × Option Task)
  plain_lines =
      (name ∷ codes "check" ∷ [], Some task.Check)
      ∷ (name ∷ codes "audit" ∷ [], Some task.Audit)
      ∷ (name ∷ codes "replay" ∷ [], Some task.Replay)
      ∷ (name ∷ codes "drive" ∷ [], Some task.Drive)
      ∷ (name ∷ codes "chart" ∷ [], None)
      ∷ (name ∷ codes "check" ∷ codes "again" ∷ [], None)
      ∷ (name ∷ codes "chec" ∷ [], None)
      ∷ (name ∷ codes "--help" ∷ [], None)
      ∷ (name ∷ [], None)
      ∷ ([], None)
      ∷ []

  -- The word of a command alone asks for that command, but for `chart`, which wants its label. No
  -- word, a second word, a part of a command's word and a request for help ask for nothing.
  plain_words : map (λ line. task_asked line.0) plain_lines ≡ map (λ line. line.1) plain_lines
  unfolding clap_on_literals
  plain_words = refl

  abbrev labelled : Text → List Text
  labelled text = name ∷ codes "chart" ∷ codes "--label" ∷ text ∷ []

  abbrev chart : ℕ → Option Task
  chart n = Some (task.Chart (label_numbered n))

  abbrev chart_lines : List (List Text × Option Task)
  chart_lines =
      (labelled (codes "17"), chart 17)
      ∷ (labelled (codes "+17"), chart 17)
      ∷ (labelled (codes "017"), chart 17)
      ∷ (labelled (codes "4294967295"), chart 4294967295)
      ∷ (labelled (codes "4294967296"), None)
      ∷ (labelled (codes "-1"), None)
      ∷ (labelled [], None)
      ∷ (labelled (codes "x"), None)
      ∷ (name ∷ codes "chart" ∷ codes "--label=17" ∷ [], chart 17)
      ∷ (name ∷ codes "chart" ∷ codes "--label=-0" ∷ [], chart 0)
      ∷ (name ∷ codes "chart" ∷ codes "--label=-1" ∷ [], None)
      ∷ (name ∷ codes "chart" ∷ codes "--label" ∷ [], None)
      ∷ (name ∷ codes "chart" ∷ codes "--label=17" ∷ codes "--label=17" ∷ [], None)
      ∷ (name ∷ codes "chart" ∷ codes "17" ∷ [], None)
      ∷ (name ∷ codes "check" ∷ codes "--label" ∷ codes "17" ∷ [], None)
      ∷ []

  -- `clap`'s reader of integers reads labels so: a plus and zeros may be in front, and the
  -- label may follow `=`, and then a minus may be before a zero. More than the greatest label, no
  -- digits at all, a word that begins with a minus, and the option twice ask for nothing.
  chart_labels : map (λ line. task_asked line.0) chart_lines ≡ map (λ line. line.1) chart_lines
  unfolding clap_on_literals
  chart_labels = refl
