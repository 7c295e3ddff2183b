-- The checker's yes says that the acts show the streams; resets and too many acts were refused
-- before.
use Rattle.std.proofs.Common.{subst, arith}
use Rattle.st_core.specs.Laws.{NoReset}
use Rattle.st_core.specs.Verdict.{IsVerdict, Yes}
use Rattle.lack_decide.proofs.certificates.certify.Goals as goal

pub returns-in-Ok-Yes : goal.returns-in-Ok-Yes
returns-in-Ok-Yes g c =
    let top = g.row.TOP in
    let streams = c.args.streams.now in
    let yes : IsVerdict top streams c.args.acts (Yes c.in-Ok-Yes.pairs) =
    subst (λ acts. IsVerdict top streams acts (Yes c.in-Ok-Yes.pairs)) c.as_slice-2.ensures
    (rw c.in-Ok-Yes.field-0-is at c.in-Ok-Yes.ensures.verdict) in
    record {
      verdict = yes;
      shows = (yes.0, yes.1, yes.2);
      one_trace = subst NoReset c.as_slice.ensures (c.has_no_reset.ensures.0
          c.if-not-has_no_reset.false);
      within = let few = c.if-len-most.false in let all = c.len.ensures in omega (arith, few, all);
    }
