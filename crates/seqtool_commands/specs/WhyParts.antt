-- The outputs for streams that were read, for the contracts of the parts of the command.
use Rattle.std.specs.Prelude.{◌≡◌, List, None, IsSome}
use Rattle.st_core.specs.Run.{Stream}
use Rattle.st_commands.specs.Output.{Output, no_memory}
use Rattle.node_streams.specs.Order.{HaveOrder}
use Rattle.seqtool_commands.specs.declared.question.Question.{Question}
use Rattle.seqtool_commands.specs.Why.{event_asked, found, no_event, no_order}

-- the output of `why` about an event
pub data AnswersOf (streams : List Stream) (q : Question) : Output → Type 0 where
  OfFound : IsSome (event_asked streams q) → HaveOrder streams
      → AnswersOf streams q (found streams q)
  OfNoOrder : IsSome (event_asked streams q) → ¬ (HaveOrder streams)
      → AnswersOf streams q no_order
  OfNoEvent : event_asked streams q ≡ None → AnswersOf streams q (no_event q)
  NoRoom : AnswersOf streams q no_memory
