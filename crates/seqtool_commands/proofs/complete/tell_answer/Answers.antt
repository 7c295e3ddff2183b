-- A completion is written in its form, and a reason with its event.
use Rattle.lack_decide.specs.declared.answer.Answer.TheVariants as answer
use Rattle.st_commands.specs.Command.{call}
use Rattle.st_commands.proofs.ForCallers.{delivers}
use Rattle.seqtool_commands.specs.Complete.{IsNever, never_text, text_of_status}
use Rattle.seqtool_commands.specs.Parts.{Finds}
use Rattle.seqtool_commands.proofs.complete.tell_answer.Goals as goal

pub returns-in-Never : goal.returns-in-Never
returns-in-Never g c =
    let p = c.in-Never.pid in
    let i = c.in-Never.index in
    let r = c.in-Never.never in
    let out = text_of_status (never_text c.args.streams.now p i r) 1 in
    record {
      output = out;
      owed = Finds (answer.Never p i r) out (rw c.in-Never.is at c.requires)
          (IsNever p i r);
      delivered = delivers (call g.W.ByteSink _ _) out c.send_never-sent.result _
          c.send_never-sent.ensures
          c.status_of.ensures;
    }
