-- Each event adds the send that it took.
use Rattle.std.proofs.Common.{◌++◌, get_or, take, append-nil, sym, ◌∙◌, ap, subst}
use Rattle.st_core.specs.declared.types.Kind.TheVariants as kind
use Rattle.node_streams.specs.Messages.{each_from, taken_send, taken_sends}
use Rattle.node_streams.specs.Tables.{CountAlike}
use Rattle.node_streams.proofs.AlikeEnds.{number_is_told}
use Rattle.node_streams.proofs.EachEvents.{each_step}
use Rattle.node_streams.proofs.Unsents.{none_left}
use Rattle.node_streams.proofs.sends.Sends.taken_by.Goals as goal
use Rattle.st_pair.proofs.ForCallers.{at_get_or, blank}

pub loop-i-preserved : goal.loop-i-preserved
loop-i-preserved c =
    let es = c.args.events.now in
    let i = c.loop-i.i in
    let e = get_or es i blank in
    let at = at_get_or es i blank c.loop-i-test.true in
    each_step (taken_send c.args.self.now) es i e c.loop-i.found.items c.push.new.self.items
    (taken_sends c.args.self.now es) c.taken.result at c.loop-i.invariant
    c.in_ok-push.ensures.items
    (c.taken.ensures (take i es) (number_is_told kind.Receive es c.deref.result.now
    (subst (CountAlike kind.Receive es) (sym c.deref.ensures.value) c.in_ok-numbers.ensures)
    i e at c.number_at.result c.number_at.ensures))

pub returns : goal.returns
returns c =
    let es = c.args.events.now in
    let i = c.loop-i.i in
    let items = c.loop-i.found.items in
    sym (append-nil items)
    ∙ ap (λ xs. items ++ each_from (taken_send c.args.self.now) (take i es) xs)
    (sym (none_left es i c.loop-i-test.false))
    ∙ c.loop-i.invariant
