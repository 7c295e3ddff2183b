-- The verdict that `check` returns is written, or `fault memory` if memory ran out.
use Rattle.st_check.specs.Answers.{verdict_of}
use Rattle.st_commands.specs.Output.{judged, no_memory}
use Rattle.st_commands.specs.Parts.{Judges, NoRoomToCheck}
use Rattle.st_commands.proofs.check.check_acts.Goals as goal

pub returns-in-Ok : goal.returns-in-Ok
returns-in-Ok g c =
    let answer = c.in-Ok.ensures in
    record {
      output = judged (verdict_of c.in-Ok.verdict);
      owed = Judges (verdict_of c.in-Ok.verdict) answer.verdict answer.follows answer.paired;
      delivered = c.tell_verdict.ensures;
    }

pub returns-in-Err-Memory : goal.returns-in-Err-Memory
returns-in-Err-Memory g c =
    record { output = no_memory; owed = NoRoomToCheck; delivered = c.tell_fault.ensures }
