-- Before the header only a header is good; after it the builder judges.
use Rattle.std.proofs.Common.{◌∙◌, sym}
use Rattle.st_text.proofs.CutterSteps.{said_some, said_header, said_none}
use Rattle.st_text.proofs.cutter.pass_on.Goals as goal

pub returns-in-Some : goal.returns-in-Some
returns-in-Some c =
    λ ls h. said_some c.args.limits c.args.builder.now c.in-Some.builder _ ls c.args.said.now
    c.accept.result
    c.in-Some.is
    c.accept.ensures h

pub returns-in-Some-header_of : goal.returns-in-Some-header_of
returns-in-Some-header_of c =
    λ ls h. said_header c.args.limits c.args.builder.now _ ls c.args.said.now
    c.in-Some-header_of.wide c.in-None.is
    (sym c.header_of.ensures ∙ c.in-Some-header_of.is) c.new.ensures h

pub returns-in-None-header_of : goal.returns-in-None-header_of
returns-in-None-header_of c =
    λ ls h. said_none c.args.limits c.args.builder.now ls c.args.said.now c.in-None.is
    (sym c.header_of.ensures ∙ c.in-None-header_of.is) h
