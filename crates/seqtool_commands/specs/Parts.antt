-- The outputs for streams that were read, for the contracts of the parts of a command.
use Rattle.std.specs.Prelude.{List}
use Rattle.st_core.specs.Run.{Stream}
use Rattle.lack_laws.specs.OpenReasons.{HasNoOpenReason}
use Rattle.lack_laws.specs.Renumbering.{renumbered_streams}
use Rattle.st_commands.specs.Output.{Output, no_memory}
use Rattle.seqtool_commands.specs.Renumber.{streams_output}
use Rattle.seqtool_commands.specs.declared.complete.Form.{Form}
use Rattle.seqtool_commands.specs.Complete.{uncompleted, Answers}
use Rattle.lack_decide.specs.declared.answer.Answer.{Answer}
use Rattle.lack_decide.specs.Answers.{IsAnswer}
use Rattle.st_commands.specs.Checked.{top}

-- the output of `complete` in a form
pub data CompletesTo (f : Form) (streams : List Stream) : Output → Type 0 where
  Finds : (found : Answer) (out : Output) → IsAnswer top streams found
      → Answers f streams found out → CompletesTo f streams out
  FindsNone : HasNoOpenReason top streams → CompletesTo f streams uncompleted
  NoRoomToComplete : CompletesTo f streams no_memory

-- the output of `renumber`
pub data RenumbersTo (streams : List Stream) : Output → Type 0 where
  Ranks : RenumbersTo streams (streams_output (renumbered_streams streams))
  NoRoomToRenumber : RenumbersTo streams no_memory
