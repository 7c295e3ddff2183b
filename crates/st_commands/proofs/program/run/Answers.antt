-- Words ask for a command, or for none; if for none, nothing is read and the status is 3 or 4.
use Rattle.std.proofs.Common.{map, arith}
use Rattle.st_text.specs.Limits.{standard}
use Rattle.st_commands.specs.Command.{ForCommand}
use Rattle.st_commands.specs.Output.{refusal_output}
use Rattle.st_commands.proofs.Deliveries.{performs_asked, performs_tells, tells_as}
use Rattle.st_commands.proofs.Refusals.{owes_refusal, refusal_high}
use Rattle.st_commands.proofs.program.run.Goals as goal

pub returns-in-Ok-clause-told : goal.returns-in-Ok-clause-told
returns-in-Ok-clause-told g c =
    tells_as _ _ (λ out owed. ForCommand c.in-Ok.task out c.in-Ok.ensures.task owed)
    (performs_tells standard _ _ c.in-Ok.task _ c.run_task.ensures)

pub returns-in-Ok-clause-means : goal.returns-in-Ok-clause-means
returns-in-Ok-clause-means g c task asked low =
    performs_asked standard _ _ _ c.in-Ok.task task _ c.in-Ok.ensures.task asked c.run_task.ensures

pub returns-in-Err-clause-told : goal.returns-in-Err-clause-told
returns-in-Err-clause-told g c =
    record {
      output = refusal_output c.in-Err.refusal;
      owed =
          owes_refusal standard g.R.ByteSource c.args.reader.now
          (map g.S.AsStr.text c.args.words.now) c.in-Err.refusal c.in-Err.ensures.refusal;
      delivered = c.tell_refusal.ensures;
    }

pub returns-in-Err-clause-means : goal.returns-in-Err-clause-means
returns-in-Err-clause-means g c task asked low =
    let high = refusal_high _ c.in-Err.refusal _ c.tell_refusal.ensures in
    absurd (omega (arith, high, low))
