-- The verdict is the checker's.
use Rattle.std.proofs.Common.{subst}
use Rattle.st_check.specs.Answers.{verdict_of}
use Rattle.st_core.specs.Verdict.{IsVerdict}
use Rattle.st_audit.proofs.auditing.judge.Goals as goal

pub returns : goal.returns
returns g c =
    let streams = c.args.streams.now in
    record {
      exact = c.finding_by.ensures g.row.TOP streams
          (subst (λ acts. IsVerdict g.row.TOP streams acts (verdict_of c.in-Ok.verdict))
          c.as_slice.ensures
          c.in-Ok.ensures.verdict);
    }
