-- Each part of the command writes an output that it owes for the bytes that were read.
use Rattle.st_text.specs.Limits.{greater}
use Rattle.st_text.specs.Text.{Contents}
use Rattle.st_commands.specs.Output.{Output}
use Rattle.st_commands.specs.Command.{ReaderCall, Owes, OfBytes, ForMemory}
use Rattle.st_commands.proofs.ForCallers.{WasRead}
use Rattle.seqtool_commands.specs.declared.question.Question.{Question}
use Rattle.seqtool_commands.specs.Why.{AreSpelled, IsWhy, Found, Lacking, Unordered, found}
use Rattle.seqtool_commands.specs.Why.{no_event, no_order}
use Rattle.seqtool_commands.specs.WhyParts.{AnswersOf, OfFound, OfNoEvent, OfNoOrder, NoRoom}

module _ {R : Type 0} (reader : ReaderCall R) (c : Contents) (h : WasRead greater reader c)
    (q : Question) where
  spelled : AreSpelled h.bytes c.streams
  spelled = record { given = c.acts; spelled = h.spelled }

  pub owes_why : (out : Output) → AnswersOf c.streams q out → Owes greater reader (IsWhy q) out
  owes_why out (OfFound at order) =
      OfBytes h.bytes (found c.streams q) h.all (Found h.bytes c.streams spelled at order)
  owes_why out (OfNoOrder at none) =
      OfBytes h.bytes no_order h.all (Unordered h.bytes c.streams spelled at none)
  owes_why out (OfNoEvent none) =
      OfBytes h.bytes (no_event q) h.all (Lacking h.bytes c.streams spelled none)
  owes_why out NoRoom = ForMemory h.bytes h.all h.small
