-- The streams' lines and the acts' are all lines after the header.
use Rattle.std.proofs.Common.{◌∙◌, sym}
use Rattle.st_text.proofs.RemoteLemmas.{body_true, parts_none, parts_some}
use Rattle.st_text.proofs.remote.are_parts_remote.Goals as goal

pub returns-then-are_streams_remote : goal.returns-then-are_streams_remote
returns-then-are_streams_remote c =
    sym (body_true c.args.streams.now _
    (sym c.are_streams_remote.ensures ∙ c.if-are_streams_remote.true))

pub returns-in-None : goal.returns-in-None
returns-in-None c =
    sym (parts_none c.args.streams.now c.args.acts c.in-None.is
    (sym c.are_streams_remote.ensures ∙ c.if-are_streams_remote.false))

pub returns-in-Some : goal.returns-in-Some
returns-in-Some c =
    c.are_acts_remote.ensures
    ∙ sym (parts_some c.args.streams.now c.args.acts c.in-Some.acts c.in-Some.is
    (sym c.are_streams_remote.ensures ∙ c.if-are_streams_remote.false))
