-- The fault of a line comes first; then Truncated, if a line is unfinished or there is none at
-- all; then the fault that only all lines show.
use Rattle.std.proofs.Common.{◌∙◌, sym, arith}
use Rattle.std.proofs.lemmas.Bool.{eqb-true, eqb-false}
use Rattle.std.proofs.lemmas.List.{nil_from_length}
use Rattle.st_text.proofs.CutterEnd.{end_fault, good, end_long, end_tail, end_nothing, end_finish}
use Rattle.st_text.proofs.cutter.Cutter.end.Goals as goal

pub returns-in-Some : goal.returns-in-Some
returns-in-Some c = λ limits bytes few h.
    let s = c.args.self in
    end_fault limits bytes s.out s.fault s.long s.tail.items s.builder c.in-Some.fault c.requires
    c.in-Some.is few h

pub returns-then-long : goal.returns-then-long
returns-then-long c = λ limits bytes few h.
    let s = c.args.self in
    end_long limits bytes s.long s.tail.items s.builder c.if-long.true few
    (good limits bytes s.out s.fault s.long s.tail.items s.builder c.requires c.in_default.is h)

pub returns-then-not-is_empty : goal.returns-then-not-is_empty
returns-then-not-is_empty c = λ limits bytes few h.
    let s = c.args.self in
    let filled = eqb-false _ _ (sym c.is_empty.ensures ∙ c.if-not-is_empty.true) in
    end_tail limits bytes s.long s.tail.items s.builder c.if-long.false
    (omega (arith, s.tail.ok.0, filled)) few
    (good limits bytes s.out s.fault s.long s.tail.items s.builder c.requires c.in_default.is h)

pub returns-in-None : goal.returns-in-None
returns-in-None c = λ limits bytes few h.
    let s = c.args.self in
    end_nothing limits bytes s.long s.tail.items s.builder c.in-None.is few
    (good limits bytes s.out s.fault s.long s.tail.items s.builder c.requires c.in_default.is h)

pub returns : goal.returns
returns c = λ limits bytes few h.
    let s = c.args.self in
    let none = eqb-true _ _ (sym c.is_empty.ensures ∙ c.if-not-is_empty.false) in
    end_finish limits bytes s.long s.tail.items s.builder c.in-Some-builder.builder c.finish.result
    c.if-long.false
    (nil_from_length s.tail.items (omega (arith, s.tail.ok.0, none))) c.in-Some-builder.is few
    c.finish.ensures
    (good limits bytes s.out s.fault s.long s.tail.items s.builder c.requires c.in_default.is h)
