-- The bytes that wait and the rest are the line.
use Rattle.std.proofs.Common.{inl, inr}
use Rattle.st_text.specs.Fault.{cut}
use Rattle.st_text.proofs.CutterSteps.{ends_within}
use Rattle.st_text.proofs.cutter.Cutter.end_begun_line.Goals as goal

pub returns-in_default : goal.returns-in_default
returns-in_default c = λ bytes plain h.
    let s = c.args.self.now in
    let short = c.in_default.ensures.err in
    record {
      holds = tt;
      growth =
          λ _. inl (ends_within c.args.limits s.out s.fault bytes s.long s.tail.items s.builder
          c.requires.going
          c.requires.good
          short (c.requires.begun short) h);
    }

pub returns : goal.returns
returns c = λ bytes plain h.
    let s = c.args.self.now in
    let t =
    c.pass_line.ensures bytes c.args.rest.now s.long s.tail.items plain
    (c.in-Ok.ensures.said (cut bytes).1) h in
    record { holds = t.holds; growth = λ out. inr (t.growth out) }
