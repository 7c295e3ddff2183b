-- Each command, from its reader to its writer, within the greater limits.
use Rattle.std.specs.Prelude.{◌≡◌, ℕ}
use Rattle.st_commands.specs.Command.{ReaderCall, WriterCall, Owes, Tells}
use Rattle.st_commands.specs.Checked.{IsChecked}
use Rattle.st_commands.specs.Audited.{IsAudited}
use Rattle.st_commands.specs.Meaning.{MeansYes, MeansNo, MeansFits, MeansUnfit, Performs, Says}
use Rattle.st_commands.specs.Output.{Output}
use Rattle.st_text.specs.Limits.{greater}
use Rattle.st_text.specs.Spelling.{ended_line}
use Rattle.seqtool_commands.specs.declared.words.ToolTask.{ToolTask}
use Rattle.seqtool_commands.specs.declared.words.ToolTask.TheVariants as task
use Rattle.seqtool_commands.specs.declared.complete.Form.{Form}
use Rattle.seqtool_commands.specs.Complete.{IsOutputOfComplete, MeansCompleted, MeansLong}
use Rattle.seqtool_commands.specs.Complete.{MeansNever}
use Rattle.seqtool_commands.specs.Words.{tool_usage_words, tool_version_words}
use Rattle.seqtool_commands.specs.NodeCheck.{IsNodeChecked, MeansNodeNo, MeansNodeYes}
use Rattle.seqtool_commands.specs.Renumber.{IsRenumbered, MeansRefused, MeansRenumbered}
use Rattle.seqtool_commands.specs.Why.{IsWhy}
use Rattle.seqtool_commands.specs.WhyMeaning.{MeansTold, MeansUntold}

-- the output for words that ask for nothing
abbrev pub tool_usage : Output
tool_usage = record { text = ended_line tool_usage_words; status = 3 }

abbrev pub tool_version : Output
tool_version = record { text = ended_line (tool_version_words); status = 0 }

module _ {R W : Type 0} (reader : ReaderCall R) (writer : WriterCall W) where
  -- `complete` has a third status besides yes and no: 5, if the bundle is too long
  pub record DoesComplete (form : Form) (status : ℕ) : Type 0 where
    pub performed : Performs greater reader writer
        (IsOutputOfComplete form) (MeansCompleted form) MeansNever status
    pub long : status ≡ 5 → Says greater reader writer (MeansLong form)

  -- `renumber` never says no: it refuses a text, with status 2
  pub record DoesRenumber (status : ℕ) : Type 0 where
    pub told : Tells writer (Owes greater reader IsRenumbered) status
    pub renumbered : status ≡ 0 → Says greater reader writer MeansRenumbered
    pub refused : status ≡ 2 → Says greater reader writer MeansRefused

  -- each command does its task with the status
  abbrev pub Does : ToolTask → ℕ → Type 0
  Does (task.Why question) status =
      Performs greater reader writer (IsWhy question) (MeansTold question) (MeansUntold question)
      status
  Does (task.Complete form) status = DoesComplete form status
  Does task.Renumber status = DoesRenumber status
  Does task.Check status =
      Performs greater reader writer (IsChecked greater) (MeansYes greater) (MeansNo greater) status
  Does task.CheckNode status =
      Performs greater reader writer IsNodeChecked MeansNodeYes MeansNodeNo status
  Does task.Audit status =
      Performs greater reader writer (IsAudited greater) (MeansFits greater) (MeansUnfit greater)
      status
