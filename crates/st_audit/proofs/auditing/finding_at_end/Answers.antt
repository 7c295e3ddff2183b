-- The verdict follows from the comparison if all acts passed, and is else the checker's.
use Rattle.std.proofs.Common.{IfSome, subst}
use Rattle.st_check.proofs.ForCallers.{passed_even}
use Rattle.st_check.specs.Progress.{HasPassed}
use Rattle.st_audit.proofs.auditing.finding_at_end.Goals as goal

pub into_verdict-requires : goal.into_verdict-requires
into_verdict-requires g c =
    let streams = c.args.streams.now in
    let passed = subst (λ x. IfSome x (HasPassed g.row.TOP streams c.args.acts)) c.in-Some.is
    c.requires in
    passed_even g.row.TOP streams c.args.acts passed.0 c.in-Some.comparison passed.1

pub returns-in-Some : goal.returns-in-Some
returns-in-Some g c =
    let top = g.row.TOP in
    let streams = c.args.streams.now in
    let passed = subst (λ x. IfSome x (HasPassed top streams c.args.acts)) c.in-Some.is
    c.requires in
    record {
      exact = c.finding_by.ensures top streams
          (c.into_verdict.ensures top c.args.acts passed.0 passed.1);
    }
