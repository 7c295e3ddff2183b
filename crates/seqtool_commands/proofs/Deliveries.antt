-- Each part of a command writes an output that the command owes for the bytes that were read.
use Rattle.st_text.specs.Limits.{greater}
use Rattle.st_text.specs.Text.{Contents}
use Rattle.lack_laws.specs.Renumbering.{renumbered_streams}
use Rattle.st_commands.specs.Output.{Output}
use Rattle.st_commands.specs.Command.{ReaderCall, Owes, OfBytes, ForMemory}
use Rattle.st_commands.proofs.ForCallers.{WasRead}
use Rattle.seqtool_commands.specs.Renumber.{IsRenumbered, Ranked, streams_output}
use Rattle.seqtool_commands.specs.declared.complete.Form.{Form}
use Rattle.seqtool_commands.specs.Complete.{uncompleted, Answered, IsOutputOfComplete, Uncompleted}
use Rattle.seqtool_commands.specs.Parts.{CompletesTo, Finds, FindsNone, NoRoomToComplete}
use Rattle.seqtool_commands.specs.Parts.{RenumbersTo, Ranks, NoRoomToRenumber}

module _ {R : Type 0} (reader : ReaderCall R) (c : Contents) (h : WasRead greater reader c) where
  -- ---- renumber

  pub owes_renumber : (out : Output) → RenumbersTo c.streams out
      → Owes greater reader IsRenumbered out
  owes_renumber out Ranks =
      OfBytes h.bytes (streams_output (renumbered_streams c.streams)) h.all
      (Ranked h.bytes c.streams c.acts h.spelled)
  owes_renumber out NoRoomToRenumber = ForMemory h.bytes h.all h.small

  -- ---- complete

  pub owes_complete : (f : Form) (out : Output) → CompletesTo f c.streams out
      → Owes greater reader (IsOutputOfComplete f) out
  owes_complete f out (Finds found o is answers) =
      OfBytes h.bytes o h.all
      (Answered h.bytes c.streams found o (record { given = c.acts; spelled = h.spelled; is = is })
      answers)
  owes_complete f out (FindsNone none) =
      OfBytes h.bytes uncompleted h.all (Uncompleted h.bytes c.streams c.acts h.spelled none)
  owes_complete f out NoRoomToComplete = ForMemory h.bytes h.all h.small
