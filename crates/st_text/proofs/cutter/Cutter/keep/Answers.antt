-- Bytes without a newline join the unfinished line, which is kept up to the longest.
use Rattle.std.proofs.Common.{◌∙◌, ◌+◌, ◌<◌, length, sym, arith}
use Rattle.st_text.specs.Fault.{cut}
use Rattle.st_text.proofs.CutterSteps.{holds_kept, adds_bytes, not_out, tail_long, tail_outgrown}
use Rattle.st_text.proofs.CutterSteps.{tail_grown}
use Rattle.st_text.proofs.Growths.{added_on, refused}
use Rattle.st_text.proofs.cutter.Cutter.keep.Goals as goal

pub returns-then-self-clause-holds : goal.returns-then-self-clause-holds
returns-then-self-clause-holds c = λ limits bytes plain h.
    let s = c.args.self.now in
    let long = tail_long s.long s.tail.items (cut bytes).1 c.args.rest.now c.if-self.true in
    record {
      holds = holds_kept limits s.out s.fault bytes c.args.rest.now s.long s.long s.tail.items
          s.tail.items s.builder
          c.requires.going c.requires.good plain long h;
      growth = not_out s.out c.requires.going;
    }

pub returns-then-rest-len-clause-holds : goal.returns-then-rest-len-clause-holds
returns-then-rest-len-clause-holds c = λ limits bytes plain h.
    let s = c.args.self.now in
    let more : 131 < length s.tail.items + length c.args.rest.now =
    omega (arith, c.if-rest-len.true, c.len.ensures, s.tail.ok.0, s.short) in
    let outgrown =
    tail_outgrown s.long s.tail.items c.clear.new.self.items (cut bytes).1 c.args.rest.now
    c.if-self.false more in
    record {
      holds = holds_kept limits s.out s.fault bytes c.args.rest.now s.long _ s.tail.items
          c.clear.new.self.items
          s.builder
          c.requires.going c.requires.good plain outgrown h;
      growth = not_out s.out c.requires.going;
    }

pub returns-then-is_err-clause-holds : goal.returns-then-is_err-clause-holds
returns-then-is_err-clause-holds c = λ limits bytes plain h.
    let s = c.args.self.now in
    let full =
    refused c.extend_from_slice.result _ (sym c.is_err.ensures.value ∙ c.if-is_err.true)
    c.extend_from_slice.ensures.full in
    let some : 0 < length c.args.rest.now = omega (arith, full, s.tail.ok.1) in
    record {
      holds = tt;
      growth = λ _. adds_bytes limits s.out s.fault bytes c.args.rest.now s.long s.tail.items
          s.builder
          c.requires.going c.requires.good plain some h;
    }

pub returns-else-is_err-clause-holds : goal.returns-else-is_err-clause-holds
returns-else-is_err-clause-holds c = λ limits bytes plain h.
    let s = c.args.self.now in
    let grown =
    added_on c.extend_from_slice.result _ _ _ c.extend_from_slice.ensures.items
    (sym c.is_err.ensures.value ∙ c.if-is_err.false) in
    record {
      holds = holds_kept limits s.out s.fault bytes c.args.rest.now s.long s.long s.tail.items _
          s.builder
          c.requires.going c.requires.good plain
          (tail_grown s.long s.tail.items _ (cut bytes).1 c.args.rest.now c.if-self.false grown) h;
      growth = not_out s.out c.requires.going;
    }
